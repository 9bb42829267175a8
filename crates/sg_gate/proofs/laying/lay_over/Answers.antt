use Rattle.std.proofs.Common.{◌≡◌, ◌+◌, ◌*◌, ℕ, List, length, min, take, Ok, ap, subst}
use Rattle.sg_base.specs.declared.area.Area.TheVariants.{Home}
use Rattle.sg_disk.specs.Disk.{FULL}
use Rattle.sg_gate.specs.Layout.{HEADER, PAGE}
use Rattle.sg_gate.specs.Batch.{IsBatch}
use Rattle.sg_gate.proofs.Costs.{laid_calls, laid_bytes}
use Rattle.sg_gate.proofs.Laid.{rest_moments, rest_laid, is_open_there, settled_same, laying, is_laid, none_wrong}
use Rattle.sg_gate.proofs.laying.lay_over.Goals as goal

pub returns-in_err-count-clause-any_moment : goal.returns-in_err-count-clause-any_moment
returns-in_err-count-clause-any_moment g c told settled header = rest_moments c.args.pages settled header (c.read_batch.ensures.reads.any_moment told)

pub returns-in_default-clause-done : goal.returns-in_default-clause-done
returns-in_default-clause-done g c told =
    rest_laid (g.D.Disk.view c.args.disk.now).now (g.D.Disk.view c.read_batch.new.disk).now (c.read_batch.ensures.reads.unchanged told) (c.in_ok-count.ensures.closed told (ap Ok c.in_default.is))

pub returns-in_default-clause-any_moment : goal.returns-in_default-clause-any_moment
returns-in_default-clause-any_moment g c told settled header = rest_moments c.args.pages settled header (c.read_batch.ensures.reads.any_moment told)

pub returns-in_err-copy_home-clause-any_moment : goal.returns-in_err-copy_home-clause-any_moment
returns-in_err-copy_home-clause-any_moment g c told settled header =
    let v = g.D.Disk.view c.args.disk.now in
    let w = g.D.Disk.view c.read_batch.new.disk in
    let z = g.D.Disk.view c.copy_home.new.disk in
    let ns = take c.in-Some.count c.read_batch.new.into in
    let same = c.read_batch.ensures.reads.unchanged told in
    let open_there = rw c.in-Some.is at (c.in_ok-count.ensures.open told) in
    let batch = rw c.in-Some.is at c.in_ok-count.ensures.batch in
    laying v w ns same open_there.0 open_there.1 z c.args.pages settled batch (c.read_batch.ensures.reads.any_moment told)
    (c.copy_home.ensures.any_moment c.args.pages told (is_open_there v w ns same open_there.0 open_there.1) (settled_same v w ns same open_there.0 open_there.1 settled) batch)

pub returns-clause-any_moment : goal.returns-clause-any_moment
returns-clause-any_moment g c told settled header =
    let v = g.D.Disk.view c.args.disk.now in
    let w = g.D.Disk.view c.read_batch.new.disk in
    let z = g.D.Disk.view c.copy_home.new.disk in
    let ns = take c.in-Some.count c.read_batch.new.into in
    let same = c.read_batch.ensures.reads.unchanged told in
    let open_there = rw c.in-Some.is at (c.in_ok-count.ensures.open told) in
    let batch = rw c.in-Some.is at c.in_ok-count.ensures.batch in
    laying v w ns same open_there.0 open_there.1 z c.args.pages settled batch (c.read_batch.ensures.reads.any_moment told)
    (c.copy_home.ensures.any_moment c.args.pages told (is_open_there v w ns same open_there.0 open_there.1) (settled_same v w ns same open_there.0 open_there.1 settled) batch)

pub returns-clause-done : goal.returns-clause-done
returns-clause-done g c told =
    let v = g.D.Disk.view c.args.disk.now in
    let w = g.D.Disk.view c.read_batch.new.disk in
    let ns = take c.in-Some.count c.read_batch.new.into in
    let same = c.read_batch.ensures.reads.unchanged told in
    let open_there = rw c.in-Some.is at (c.in_ok-count.ensures.open told) in
    is_laid v w ns same open_there.0 open_there.1 (g.D.Disk.view c.copy_home.new.disk).now (c.in_ok-copy_home.ensures.done told) (c.in_ok-copy_home.ensures.logs told)

pub returns-clause-damaged : goal.returns-clause-damaged
returns-clause-damaged g c at told gate wrong =
    let f = ((g.D.Disk.view c.args.disk.now).now Home).seen in
    let open_there = rw c.in-Some.is at (c.in_ok-count.ensures.open told) in
    let batch = rw c.in-Some.is at c.in_ok-count.ensures.batch in
    absurd (none_wrong c.args.pages f (HEADER + 1) at (subst (λ (l : List ℕ). IsBatch c.args.pages l) open_there.1 batch) wrong)

pub returns-in_err-copy_home-clause-shut : goal.returns-in_err-copy_home-clause-shut
returns-in_err-copy_home-clause-shut g c told closed = let open_there = rw c.in-Some.is at (c.in_ok-count.ensures.open told) in absurd (closed open_there.0)

pub returns-in_err-copy_home-clause-shut_calls : goal.returns-in_err-copy_home-clause-shut_calls
returns-in_err-copy_home-clause-shut_calls g c told closed = let open_there = rw c.in-Some.is at (c.in_ok-count.ensures.open told) in absurd (closed open_there.0)

pub returns-clause-shut : goal.returns-clause-shut
returns-clause-shut g c told closed = let open_there = rw c.in-Some.is at (c.in_ok-count.ensures.open told) in absurd (closed open_there.0)

pub returns-clause-shut_calls : goal.returns-clause-shut_calls
returns-clause-shut_calls g c told closed = let open_there = rw c.in-Some.is at (c.in_ok-count.ensures.open told) in absurd (closed open_there.0)

pub returns-clause-calls : goal.returns-clause-calls
returns-clause-calls g c told gate =
    let v = g.D.Disk.view c.args.disk.now in let z = g.D.Disk.view c.copy_home.new.disk in
    let open_there = rw c.in-Some.is at (c.in_ok-count.ensures.open told) in
    subst (λ (ns : List ℕ). z.calls ≡ min (v.calls + 2 * length ns + 4) FULL) open_there.1
    (laid_calls v.calls (g.D.Disk.view c.read_batch.new.disk).calls z.calls (length (take c.in-Some.count c.read_batch.new.into)) FULL c.read_batch.ensures.calls c.in_ok-copy_home.ensures.calls)

pub returns-clause-all_handed : goal.returns-clause-all_handed
returns-clause-all_handed g c told gate =
    let v = g.D.Disk.view c.args.disk.now in let z = g.D.Disk.view c.copy_home.new.disk in
    let open_there = rw c.in-Some.is at (c.in_ok-count.ensures.open told) in
    subst (λ (ns : List ℕ). z.handed ≡ min (v.handed + PAGE * length ns + 1) FULL) open_there.1
    (laid_bytes v.handed (g.D.Disk.view c.read_batch.new.disk).handed z.handed (length (take c.in-Some.count c.read_batch.new.into)) FULL c.read_batch.ensures.reads.handed c.in_ok-copy_home.ensures.all_handed)
