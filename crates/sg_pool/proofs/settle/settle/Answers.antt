use Rattle.std.proofs.Common.{◌<◌, inl, ℕ, sym, subst}
use Rattle.std.proofs.lemmas.Result.{on_ok_weaker}
use Rattle.sg_base.specs.declared.area.Area.TheVariants.{Home}
use Rattle.sg_disk.specs.Disk.{Image, LeavesOnly}
use Rattle.sg_disk.proofs.Moments.{weaker}
use Rattle.sg_log.specs.Held.{tail_of}
use Rattle.sg_gate.specs.Batch.{IsReady, IsEither}
use Rattle.sg_base.specs.Page.{lsn_of}
use Rattle.sg_pool.specs.Going.{with_home}
use Rattle.sg_pool.proofs.Counting.{grown_more, heeds_then}
use Rattle.sg_pool.proofs.Settling.{along, stands, page_goes}
use Rattle.sg_pool.proofs.settle.settle.Goals as goal

pub returns-in_err-make_durable-clause-moments : goal.returns-in_err-make_durable-clause-moments
returns-in_err-make_durable-clause-moments g c ds ps geometry last m told apart ready holds pages is appended = weaker (c.make_durable.ensures.any_moment ds ps told holds) (λ (im : Image) before. inl before)

pub returns-clause-log : goal.returns-clause-log
returns-clause-log g c ds ps told apart ready holds =
    let v = g.D.Disk.view c.args.disk.now in
    let w = g.D.Disk.view c.make_durable.new.disk in
    let same = c.in_ok-make_durable.ensures.elsewhere told in
    let there : IsReady (w.now Home) = subst IsReady (sym (same Home (λ e. apart (sym e)))) ready in
    on_ok_weaker c.write_page.result (λ logs. along w (g.D.Disk.view c.write_page.new.disk) c.args.log.now c.make_durable.new.log ds ps apart logs (c.in_ok-make_durable.ensures.log ds ps told holds)) (c.write_page.ensures.logs told there)

pub returns-clause-moments : goal.returns-clause-moments
returns-clause-moments g c ds ps geometry last m told apart ready holds pages is appended =
    let v = g.D.Disk.view c.args.disk.now in
    let w = g.D.Disk.view c.make_durable.new.disk in
    let z = g.D.Disk.view c.write_page.new.disk in
    let same = c.in_ok-make_durable.ensures.elsewhere told in
    let there : IsReady (w.now Home) = subst IsReady (sym (same Home (λ e. apart (sym e)))) ready in
    let run = c.write_page.ensures.any_moment told there in
    let run_in = subst (λ (k : ℕ). LeavesOnly w z (IsEither w.now k (w.now Home).seen (with_home c.args.n c.args.page.now (w.now Home).seen))) (sym pages) run in
    let below : lsn_of c.args.page.now < c.make_durable.new.log.gate = subst (λ (k : ℕ). k < c.make_durable.new.log.gate) c.page_lsn.ensures (c.in_ok-make_durable.ensures.durable (subst (λ (k : ℕ). k < tail_of c.args.log.now) (sym c.page_lsn.ensures) appended)) in
    page_goes geometry v w c.args.log.now ds ps last m c.make_durable.new.log.gate apart same (stands w c.args.log.now c.make_durable.new.log ds ps (c.in_ok-make_durable.ensures.log ds ps told holds))
    c.args.n c.args.page.now (subst (λ (k : ℕ). c.args.n < k) (sym pages) c.requires.number) c.requires.size is below z (c.make_durable.ensures.any_moment ds ps told holds) run_in

pub returns-clause-grown : goal.returns-clause-grown
returns-clause-grown g c = grown_more c.args.log.now c.make_durable.new.log (g.D.Disk.view c.args.disk.now) (g.D.Disk.view c.make_durable.new.disk) (g.D.Disk.view c.write_page.new.disk) c.make_durable.ensures.grown c.write_page.ensures.kept

pub returns-in_err-make_durable-clause-spared : goal.returns-in_err-make_durable-clause-spared
returns-in_err-make_durable-clause-spared g c durable = c.make_durable.ensures.spared (subst (λ (k : ℕ). k < c.args.log.now.gate) (sym c.page_lsn.ensures) durable)

pub returns-clause-spared : goal.returns-clause-spared
returns-clause-spared g c durable = c.make_durable.ensures.spared (subst (λ (k : ℕ). k < c.args.log.now.gate) (sym c.page_lsn.ensures) durable)

pub returns-clause-heeded : goal.returns-clause-heeded
returns-clause-heeded g c = heeds_then {U = ℕ} 0 c.write_page.result (g.D.Disk.view c.args.disk.now) (g.D.Disk.view c.make_durable.new.disk) (g.D.Disk.view c.write_page.new.disk) c.in_ok-make_durable.ensures.heeded c.write_page.ensures.heeded
