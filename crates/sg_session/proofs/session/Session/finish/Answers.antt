use Rattle.std.proofs.Common.{inr, ⊎_elim, sym, ap, ◌∙◌, refl, arith}
use Rattle.std.specs.Prelude.{is_some}
use Rattle.sg_store.specs.Engine.{led}
use Rattle.sg_store.proofs.Heeding as heeding
use Rattle.sg_session.specs.Seen.{session_core, session_engine}
use Rattle.sg_session.proofs.Ending as ending
use Rattle.sg_session.proofs.Steps.{none_of}
use Rattle.sg_ops.specs.Table.{table_of}
use Rattle.sg_session.proofs.session.Session.finish.Given as given
use Rattle.sg_session.proofs.session.Session.finish.Goals as goal

pub returns-then-is_some-clause-ends : goal.returns-then-is_some-clause-ends
returns-then-is_some-clause-ends g c z from m told x lawful shows =
    ending.ended_stopped _ (g.E.Engine.basis z) (led _ z from (g.E.Engine.view (session_engine c.args.self))) (led _ z from (g.E.Engine.view c.close.result.1)) x (session_core c.args.self)
    (ap is_some (sym c.stop.ensures) ∙ (sym c.is_some.ensures ∙ c.if-is_some.true)) shows c.close.result.0 (c.close.ensures.closes _ z from m told x lawful shows)

pub returns-clause-ends : goal.returns-clause-ends
returns-clause-ends g c z from m told x lawful shows =
    let t = table_of (λ y. (given.RecordOp-dyn g y).record_meaning y.1) (λ y. (given.RangeOp-dyn g y).range_meaning y.1) c.args.ops.now in
    let going = sym shows.store.stopped ∙ none_of c.args.self.store.stop (ap is_some (sym c.stop.ensures) ∙ (sym c.is_some.ensures ∙ c.if-is_some.false)) in
    let h = c.abort_all.ensures.aborts z from m told x lawful shows in
    ending.ended_either t (g.E.Engine.basis z) (led t z from (g.E.Engine.view (session_engine c.args.self))) (led t z from (g.E.Engine.view c.close-2.result.1)) x (session_core c.args.self) lawful
    (led t z from (g.E.Engine.view (session_engine c.abort_all.new.self))) (session_core c.abort_all.new.self) going h c.close-2.result.0 c.abort_all.new.self.store.stop refl
    (λ e. c.close-2.ensures.closes t z from (c.abort_all.ensures.means z from m) (c.abort_all.ensures.heeds.tells e told) h.after lawful h.shows)
    (λ s. (let p = c.close-2.ensures.stopped s in (ap (λ e. led t z from (g.E.Engine.view e)) p.0, p.1)))

pub returns-clause-means : goal.returns-clause-means
returns-clause-means g c z from m = c.close-2.ensures.means _ z from (c.abort_all.ensures.means z from m)

pub returns-clause-heeds : goal.returns-clause-heeds
returns-clause-heeds g c =
    heeding.heeds_then c.args.self.store.stop c.abort_all.new.self.store.stop c.close-2.result.0 (g.E.Engine.view (session_engine c.args.self)) (g.E.Engine.view (session_engine c.abort_all.new.self)) (g.E.Engine.view c.close-2.result.1) c.abort_all.ensures.heeds c.close-2.ensures.heeds

pub abort_all-requires-clause-running : goal.abort_all-requires-clause-running
abort_all-requires-clause-running g c = none_of c.args.self.store.stop (ap is_some (sym c.stop.ensures) ∙ (sym c.is_some.ensures ∙ c.if-is_some.false))

pub returns-clause-stopped : goal.returns-clause-stopped
returns-clause-stopped g c some = heeding.not_stopped c.args.self.store.stop (ap is_some (sym c.stop.ensures) ∙ (sym c.is_some.ensures ∙ c.if-is_some.false)) some

pub returns-then-is_some-clause-full : goal.returns-then-is_some-clause-full
returns-then-is_some-clause-full g c e = c.close.ensures.full e

pub returns-clause-full : goal.returns-clause-full
returns-clause-full g c e =
    inr (⊎_elim (λ was. (let at_end = c.abort_all.ensures.full was in omega (arith, at_end, c.close-2.ensures.heeds.tail))) (λ at_end. at_end) (c.close-2.ensures.full e))

pub returns-then-is_some-clause-written : goal.returns-then-is_some-clause-written
returns-then-is_some-clause-written g c none = c.close.ensures.written none

pub returns-then-is_some-clause-marked : goal.returns-then-is_some-clause-marked
returns-then-is_some-clause-marked g c none told = c.close.ensures.marked none told

pub returns-clause-written : goal.returns-clause-written
returns-clause-written g c none = c.close-2.ensures.written none

pub returns-clause-marked : goal.returns-clause-marked
returns-clause-marked g c none told =
    let on = (c.close-2.ensures.heeds.quiet none).0 in
    let e = c.close-2.ensures.marked none (c.abort_all.ensures.heeds.tells on told) in
    let low = e.appended in
    let later = c.abort_all.ensures.heeds.tail in
    record { lsn = e.lsn; estimate = e.estimate; appended = omega (arith, low, later); still = e.still }
