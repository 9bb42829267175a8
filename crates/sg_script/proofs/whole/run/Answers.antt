use Rattle.std.proofs.Common.{inl, inr, ⊎_elim, sym, ap, ◌∙◌, arith}
use Rattle.std.specs.Prelude.{is_some}
use Rattle.sg_store.proofs.Heeding.{heeds_then}
use Rattle.sg_session.specs.Seen.{session_core, session_engine}
use Rattle.sg_script.proofs.Courses.{ran_by}
use Rattle.sg_script.proofs.whole.run.Goals as goal

pub returns-clause-ran : goal.returns-clause-ran
returns-clause-ran g c =
    ran_by g.E.Engine _ c.run_script-end.result (session_engine c.args.session) (session_engine c.run_script-end.new.session) c.finish-stop.result.1 (session_core c.args.session) (session_core c.run_script-end.new.session) _ _ _ _ c.stop-by_then.result c.finish-stop.result.0
    c.run_script-end.ensures.ran c.stop-by_then.ensures c.finish-stop.ensures.heeds c.finish-stop.ensures.ends c.finish-stop.ensures.stopped

pub returns-clause-means : goal.returns-clause-means
returns-clause-means g c z from m = c.finish-stop.ensures.means z from (c.run_script-end.ensures.ran.executed.means z from m)

pub returns-clause-heeds : goal.returns-clause-heeds
returns-clause-heeds g c =
    heeds_then c.args.session.store.stop c.run_script-end.new.session.store.stop c.finish-stop.result.0 (g.E.Engine.view (session_engine c.args.session)) (g.E.Engine.view (session_engine c.run_script-end.new.session)) (g.E.Engine.view c.finish-stop.result.1) c.run_script-end.ensures.heeds c.finish-stop.ensures.heeds

pub returns-clause-stays : goal.returns-clause-stays
returns-clause-stays g c why e =
    let stopped = sym c.stop-by_then.ensures ∙ e in
    (c.finish-stop.ensures.stopped (ap is_some stopped)).1 ∙ stopped

pub returns-clause-full : goal.returns-clause-full
returns-clause-full g c e = ⊎_elim (λ was. inl (c.stop-by_then.ensures ∙ was)) (λ at_end. inr at_end) (c.finish-stop.ensures.full e)

pub returns-clause-written : goal.returns-clause-written
returns-clause-written g c none = c.finish-stop.ensures.written none

pub returns-clause-marked : goal.returns-clause-marked
returns-clause-marked g c none told =
    let on = (c.finish-stop.ensures.heeds.quiet none).0 in
    let e = c.finish-stop.ensures.marked none (c.run_script-end.ensures.heeds.tells on told) in
    let low = e.appended in
    let later = c.run_script-end.ensures.heeds.tail in
    record { lsn = e.lsn; estimate = e.estimate; appended = omega (arith, low, later); still = e.still }
