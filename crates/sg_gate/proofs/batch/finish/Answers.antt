use Rattle.std.proofs.Common.{length}
use Rattle.std.proofs.Common.{inr, ◌∙◌}
use Rattle.sg_base.specs.declared.area.Area.TheVariants.{Home}
use Rattle.sg_disk.specs.Disk.{Image}
use Rattle.sg_disk.proofs.Moments.{joined, weaker}
use Rattle.sg_gate.specs.Batch.{homed}
use Rattle.sg_gate.proofs.Costs.{batch_calls, batch_bytes}
use Rattle.sg_gate.proofs.Headers.{homed_same, whole_same, done_same}
use Rattle.sg_gate.proofs.batch.finish.Goals as goal

pub returns-in_err-copy_home-clause-any_moment : goal.returns-in_err-copy_home-clause-any_moment
returns-in_err-copy_home-clause-any_moment g c told ready =
    let v = g.D.Disk.view c.args.disk.now in
    let w = g.D.Disk.view c.open_batch.new.disk in
    let ns = c.args.numbers.now in
    let batch = c.requires in
    let opened = c.in_ok-open_batch.ensures.done told in
    let same = homed_same (v.now Home).seen (w.now Home).seen ns batch.most opened.same in
    joined (c.open_batch.ensures.any_moment c.args.pages told ready batch)
    (weaker (c.copy_home.ensures.any_moment c.args.pages told opened.opened opened.settled batch) (λ (im : Image) whole. inr (whole_same v.now w.now c.args.pages (homed ns (w.now Home).seen) (homed ns (v.now Home).seen) im same opened.logs whole)))

pub returns-clause-any_moment : goal.returns-clause-any_moment
returns-clause-any_moment g c told ready =
    let v = g.D.Disk.view c.args.disk.now in
    let w = g.D.Disk.view c.open_batch.new.disk in
    let ns = c.args.numbers.now in
    let batch = c.requires in
    let opened = c.in_ok-open_batch.ensures.done told in
    let same = homed_same (v.now Home).seen (w.now Home).seen ns batch.most opened.same in
    joined (c.open_batch.ensures.any_moment c.args.pages told ready batch)
    (weaker (c.copy_home.ensures.any_moment c.args.pages told opened.opened opened.settled batch) (λ (im : Image) whole. inr (whole_same v.now w.now c.args.pages (homed ns (w.now Home).seen) (homed ns (v.now Home).seen) im same opened.logs whole)))

pub returns-clause-done : goal.returns-clause-done
returns-clause-done g c told =
    let v = g.D.Disk.view c.args.disk.now in
    let w = g.D.Disk.view c.open_batch.new.disk in
    let ns = c.args.numbers.now in
    done_same ((g.D.Disk.view c.copy_home.new.disk).now Home) (homed ns (w.now Home).seen) (homed ns (v.now Home).seen)
    (homed_same (v.now Home).seen (w.now Home).seen ns c.requires.most (c.in_ok-open_batch.ensures.done told).same) (c.in_ok-copy_home.ensures.done told)

pub returns-clause-logs : goal.returns-clause-logs
returns-clause-logs g c told b other = c.in_ok-copy_home.ensures.logs told b other ∙ (c.in_ok-open_batch.ensures.done told).logs b other

pub returns-clause-calls : goal.returns-clause-calls
returns-clause-calls g c = batch_calls _ _ _ (length c.args.numbers.now) _ c.in_ok-open_batch.ensures.calls c.in_ok-copy_home.ensures.calls

pub returns-clause-all_handed : goal.returns-clause-all_handed
returns-clause-all_handed g c = batch_bytes _ _ _ (length c.args.numbers.now) _ c.in_ok-open_batch.ensures.all_handed c.in_ok-copy_home.ensures.all_handed
