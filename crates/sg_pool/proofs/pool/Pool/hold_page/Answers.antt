use Rattle.std.proofs.Common.{ℕ, Ok, Err, []}
use Rattle.std.proofs.lemmas.Result.{err_from_is_err_and}
use Rattle.sg_pool.specs.Pooled.{contents}
use Rattle.sg_pool.proofs.Bringing.{told_as}
use Rattle.sg_pool.proofs.RedoRuns.{page_run, nothing_repeated}
use Rattle.sg_pool.proofs.pool.Pool.hold_page.Goals as goal

pub returns-clause-run : goal.returns-clause-run
returns-clause-run g c t places same some =
    let it = c.in_ok-_f.ensures in
    let all = c.hold.ensures in
    let v = g.D.Disk.view c.args.disk.now in let w = g.D.Disk.view c.hold.new.disk in
    page_run {T = Unit {0}} g.D.Disk.told t [] c.args.p places same some v w c.args.log.now c.hold.new.log c.args.self.now c.hold.new.self (Ok tt)
    (g.met.D.Disk.reads c.hold.new.disk) all.size all.log_kept all.later it.heeded all.kept all.grown it.log all.moments c.requires.page all.windows
    (c.in_ok-_f._f, record { held = it.held; used = it.used; victim = it.victim; others = it.others }) tt it.untouched it.backed
    (λ told apart backs. (contents w c.hold.new.self, it.same told apart backs, it.backed told apart backs, nothing_repeated c.args.p t places (contents w c.hold.new.self))) (λ told apart backs. tt) it.well tt

pub returns-in_err-_f-clause-run : goal.returns-in_err-_f-clause-run
returns-in_err-_f-clause-run g c t places same some =
    let it = c.in_err-_f.ensures in
    let all = c.hold.ensures in
    let e = c.in_err-_f.field-0.0 in
    let v = g.D.Disk.view c.args.disk.now in let w = g.D.Disk.view c.hold.new.disk in
    let p = err_from_is_err_and c.from_residual.result c.from_residual.ensures.1 in
    rw (p.1, p.2)
    (page_run {T = Unit {0}} g.D.Disk.told t [] c.args.p places same some v w c.args.log.now c.hold.new.log c.args.self.now c.hold.new.self (Err c.in_err-_f.field-0.0)
    (g.met.D.Disk.reads c.hold.new.disk) all.size all.log_kept all.later it.heeded all.kept all.grown (λ ds ps told apart ready holds. told_as ℕ (Unit {0}) e _ (it.log ds ps told apart ready holds)) all.moments c.requires.page all.windows
    tt it.unused (λ told apart backs. told_as ℕ (Unit {0}) e _ (it.untouched told apart backs)) (λ told apart backs. told_as ℕ (Unit {0}) e _ (it.backed told apart backs))
    (λ told apart backs. tt) (λ told apart backs. told_as ℕ (Unit {0}) e _ (it.same told apart backs)) (λ told apart backs away. tt) it.faults)
