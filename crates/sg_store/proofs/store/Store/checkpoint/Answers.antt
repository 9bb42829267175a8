use Rattle.std.proofs.Common.{◌≤◌, ◌+◌, sym, ◌∙◌, subst, Err, refl, arith, ap}
use Rattle.sg_store.specs.Calls.{Goes, Checkpoints}
use Rattle.sg_store.specs.Seen.{core_of}
use Rattle.sg_store.specs.Store.{Core}
use Rattle.sg_store.proofs.Calls.{no_stop}
use Rattle.sg_store.proofs.Maintaining as maintaining
use Rattle.sg_store.specs.Engine.{led, IsAtRest}
use Rattle.sg_store.proofs.Serving.{serves_on}
use Rattle.sg_store.proofs.Serving as serving
use Rattle.sg_store.specs.Asks.{ShowsSome}
use Rattle.sg_store.proofs.Resting as resting
use Rattle.sg_store.proofs.Causing as causing
use Rattle.sg_base.specs.Ends.{HasRisen}
use Rattle.sg_store.proofs.Ending.{near_at}
use Rattle.sg_store.proofs.Heeding as heeding
use Rattle.sg_store.proofs.Heeding.{stop_at_behind}
use Rattle.sg_store.specs.declared.fault.Refused.{Refused}
use Rattle.sg_store.specs.Stops.{stop_behind}
use Rattle.sg_store.proofs.Accounting as accounting
use Rattle.sg_store.proofs.Still.{left_rested, not_halted}
use Rattle.sg_store.proofs.store.Store.checkpoint.Goals as goal

pub returns-then-is_some-clause-marks : goal.returns-then-is_some-clause-marks
returns-then-is_some-clause-marks g c t z from m told x lawful shows =
    maintaining.marks_stopped t (g.E.Engine.basis z) lawful (led t z from (g.E.Engine.view c.args.self.now.engine)) (core_of c.args.self.now) x (led t z from (g.E.Engine.view c.args.self.now.engine)).faults shows (sym c.is_some.ensures ∙ c.if-is_some.true)

pub returns-in-Ok-clause-marks : goal.returns-in-Ok-clause-marks
returns-in-Ok-clause-marks g c t z from m told x lawful shows =
    (let k : Core = core_of c.args.self.now in
    let stop = sym c.is_some.ensures ∙ c.if-is_some.false in
    let runs = shows.runs (sym shows.stopped ∙ no_stop t (g.E.Engine.basis z) c.args.self.now.stop stop) in
    let b = c.in-Ok.ensures.rests t z from m told runs.is_kept.engine runs.is_kept.idle in
    maintaining.marks_done t (g.E.Engine.basis z) lawful (led t z from (g.E.Engine.view c.args.self.now.engine)) k x (led t z from (g.E.Engine.view c.checkpoint.new.self)).faults shows stop (led t z from (g.E.Engine.view c.checkpoint.new.self)) b.0 b.1.0)

pub returns-in-Err-clause-marks : goal.returns-in-Err-clause-marks
returns-in-Err-clause-marks g c t z from m told x lawful shows =
    (let k : Core = core_of c.args.self.now in
    let stop = sym c.is_some.ensures ∙ c.if-is_some.false in
    let runs = shows.runs (sym shows.stopped ∙ no_stop t (g.E.Engine.basis z) c.args.self.now.stop stop) in
    let b = c.checkpoint.ensures.rests t z from m told runs.is_kept.engine runs.is_kept.idle in
    subst (λ e. Goes t (g.E.Engine.basis z) (led t z from (g.E.Engine.view c.args.self.now.engine)) x (Checkpoints (led t z from (g.E.Engine.view c.args.self.now.engine)).tail (led t z from (g.E.Engine.view c.args.self.now.engine)).faults (led t z from (g.E.Engine.view e)).faults x (Err c.halt.result)) (led t z from (g.E.Engine.view e)) (core_of c.halt.new.self)) (sym c.halt.ensures.engine)
    (subst (λ r. Goes t (g.E.Engine.basis z) (led t z from (g.E.Engine.view c.args.self.now.engine)) x (Checkpoints (led t z from (g.E.Engine.view c.args.self.now.engine)).tail (led t z from (g.E.Engine.view c.args.self.now.engine)).faults (led t z from (g.E.Engine.view c.checkpoint.new.self)).faults x (Err r)) (led t z from (g.E.Engine.view c.checkpoint.new.self)) (core_of c.halt.new.self)) (sym c.halt.ensures.answer)
    (maintaining.marks_fails t (g.E.Engine.basis z) lawful (led t z from (g.E.Engine.view c.args.self.now.engine)) k x (led t z from (g.E.Engine.view c.checkpoint.new.self)).faults shows stop (led t z from (g.E.Engine.view c.checkpoint.new.self)) (core_of c.halt.new.self) c.in-Err.fault c.halt.ensures.core b.0 c.in-Err.ensures.counts.failed c.in-Err.ensures.log_end)))

pub returns-in-Ok-clause-serves : goal.returns-in-Ok-clause-serves
returns-in-Ok-clause-serves g c t s =
    serves_on t (g.E.Engine.view c.args.self.now.engine) (g.E.Engine.view c.checkpoint.new.self) (core_of c.args.self.now) _ _ (λ z from m. c.checkpoint.ensures.means t z from m) (λ h. c.checkpoint.ensures.counts.told h)
    (λ z from m tells x lawful shows. returns-in-Ok-clause-marks g c t z from m tells x lawful shows) s

pub returns-in-Err-clause-serves : goal.returns-in-Err-clause-serves
returns-in-Err-clause-serves g c t s =
    serves_on t (g.E.Engine.view c.args.self.now.engine) (g.E.Engine.view c.halt.new.self.engine) (core_of c.args.self.now) _ _ (λ z from m. subst (λ e. (g.E.Engine.view e).means t z from) (sym c.halt.ensures.engine) (c.checkpoint.ensures.means t z from m)) (λ h. c.checkpoint.ensures.counts.told (subst (λ e. (g.E.Engine.view e).Told) c.halt.ensures.engine h))
    (λ z from m tells x lawful shows. returns-in-Err-clause-marks g c t z from m tells x lawful shows) s

pub checkpoint-requires : goal.checkpoint-requires
checkpoint-requires g c =
    let s = c.requires.serves in
    record { can = serving.asked_of s.0 (g.E.Engine.view c.args.self.now.engine) (ShowsSome (core_of c.args.self.now) s.0) IsAtRest (λ b v h. serving.at_rest s.0 b v c.args.self.now.txns (serving.runs_some s.0 b v (core_of c.args.self.now) (sym c.is_some.ensures ∙ c.if-is_some.false) h)) s.1 }

pub returns-in-Ok-clause-rests : goal.returns-in-Ok-clause-rests
returns-in-Ok-clause-rests g c t live objects durable s =
    record {
      sizes = s.sizes;
      from = λ tells. s.from (c.checkpoint.ensures.counts.told tells);
      means = λ tells. c.checkpoint.ensures.means t s.sizes (s.from (c.checkpoint.ensures.counts.told tells)) (s.means (c.checkpoint.ensures.counts.told tells));
      can = λ tells.
          (let was = c.checkpoint.ensures.counts.told tells in
          let h = s.can was in
          resting.same_has t (g.E.Engine.basis s.sizes) (led t s.sizes (s.from was) (g.E.Engine.view c.args.self.now.engine)) (led t s.sizes (s.from was) (g.E.Engine.view c.checkpoint.new.self)) (core_of c.args.self.now) _ live objects durable h _
          (returns-in-Ok-clause-marks g c t s.sizes (s.from was) (s.means was) was h.run h.lawful h.shows) (returns-in-Ok-clause-marks g c t s.sizes (s.from was) (s.means was) was h.run h.lawful h.shows).goes.1);
    }

pub returns-in-Ok-clause-told : goal.returns-in-Ok-clause-told
returns-in-Ok-clause-told g c h = c.checkpoint.ensures.counts.told h

pub returns-in-Err-clause-told : goal.returns-in-Err-clause-told
returns-in-Err-clause-told g c h = c.checkpoint.ensures.counts.told (subst (λ e. (g.E.Engine.view e).Told) c.halt.ensures.engine h)

pub returns-then-is_some-clause-causes : goal.returns-then-is_some-clause-causes
returns-then-is_some-clause-causes g c = (sym c.is_some.ensures ∙ c.if-is_some.true, refl)

pub returns-in-Ok-clause-causes : goal.returns-in-Ok-clause-causes
returns-in-Ok-clause-causes g c = ((causing.none_of _ (sym c.is_some.ensures ∙ c.if-is_some.false)), refl)

pub returns-in-Err-clause-causes : goal.returns-in-Err-clause-causes
returns-in-Err-clause-causes g c =
    causing.checks_failed (g.E.Engine.view c.args.self.now.engine) (g.E.Engine.view c.halt.new.self.engine) (core_of c.args.self.now) (core_of c.halt.new.self) c.in-Err.fault c.halt.result c.halt.ensures.answer c.halt.ensures.core (causing.none_of _ (sym c.is_some.ensures ∙ c.if-is_some.false))
    (λ d. subst (λ e. HasRisen (g.E.Engine.view c.args.self.now.engine).faults (g.E.Engine.view e).faults) (sym c.halt.ensures.engine) (c.in-Err.ensures.counts.failed d)) (near_at (g.E.Engine.view c.args.self.now.engine).tail (g.E.Engine.view c.args.self.now.engine).tail c.in-Err.fault (omega arith) c.in-Err.ensures.log_end)

pub returns-then-is_some-clause-asks : goal.returns-then-is_some-clause-asks
returns-then-is_some-clause-asks g c = λ e. refl

pub returns-in-Err-clause-asks : goal.returns-in-Err-clause-asks
returns-in-Err-clause-asks g c = λ asks. causing.not_early _ c.in-Err.fault c.halt.result c.halt.ensures.answer asks

pub returns-then-is_some-clause-heeds : goal.returns-then-is_some-clause-heeds
returns-then-is_some-clause-heeds g c =
    heeding.heeds_none c.args.self.now.stop (g.E.Engine.view c.args.self.now.engine)

pub returns-in-Ok-clause-heeds : goal.returns-in-Ok-clause-heeds
returns-in-Ok-clause-heeds g c =
    heeding.heeds_well _ (g.E.Engine.view c.args.self.now.engine) (g.E.Engine.view c.checkpoint.new.self) c.in-Ok.ensures.counts.quiet c.checkpoint.ensures.counts.tail c.in-Ok.ensures.counts.tells (accounting.unfailed_done (g.E.Engine.view c.args.self.now.engine) (g.E.Engine.view c.checkpoint.new.self) _ c.in-Ok.ensures.counts.accounts)

pub returns-in-Err-clause-heeds : goal.returns-in-Err-clause-heeds
returns-in-Err-clause-heeds g c =
    heeding.heeds_halt (g.E.Engine.view) c.args.self.now.stop c.halt.new.self.stop c.in-Err.fault (g.E.Engine.view c.args.self.now.engine) c.checkpoint.new.self c.halt.new.self.engine c.halt.ensures.engine (ap (λ (k : Core). k.stopped) c.halt.ensures.core) (causing.none_of _ (sym c.is_some.ensures ∙ c.if-is_some.false))
    c.checkpoint.ensures.counts.later c.checkpoint.ensures.counts.tail c.in-Err.ensures.counts.failed c.in-Err.ensures.counts.accounts

pub returns-in-Err-clause-stop : goal.returns-in-Err-clause-stop
returns-in-Err-clause-stop g c = ap (λ (k : Core). k.stopped) c.halt.ensures.core ∙ (stop_at_behind c.args.self.now.stop c.in-Err.fault ∙ ap (λ (r : Refused). stop_behind c.args.self.now.stop (Err r)) (sym c.halt.ensures.answer))

pub returns-then-is_some-clause-stopped : goal.returns-then-is_some-clause-stopped
returns-then-is_some-clause-stopped g c some = (refl, refl)

pub returns-in-Ok-clause-stopped : goal.returns-in-Ok-clause-stopped
returns-in-Ok-clause-stopped g c some = heeding.not_stopped c.args.self.now.stop (sym c.is_some.ensures ∙ c.if-is_some.false) some

pub returns-in-Err-clause-stopped : goal.returns-in-Err-clause-stopped
returns-in-Err-clause-stopped g c some = heeding.not_stopped c.args.self.now.stop (sym c.is_some.ensures ∙ c.if-is_some.false) some

pub returns-in-Ok-clause-hands : goal.returns-in-Ok-clause-hands
returns-in-Ok-clause-hands g c = let h = c.checkpoint.ensures.hands in omega (arith, h)

pub returns-in-Err-clause-hands : goal.returns-in-Err-clause-hands
returns-in-Err-clause-hands g c =
    let h = c.checkpoint.ensures.hands in
    subst (λ e. (g.E.Engine.view e).disk.handed ≤ (g.E.Engine.view c.args.self.now.engine).disk.handed + g.E.Engine.waiting c.args.self.now.engine + 1200) (sym c.halt.ensures.engine) (omega (arith, h))

pub returns-in-Ok-clause-ends : goal.returns-in-Ok-clause-ends
returns-in-Ok-clause-ends g c = c.in-Ok.ensures.marks

pub returns-then-is_some-clause-stock : goal.returns-then-is_some-clause-stock
returns-then-is_some-clause-stock g c none t z from m told x lawful shows r shown = shown

pub returns-in-Ok-clause-stock : goal.returns-in-Ok-clause-stock
returns-in-Ok-clause-stock g c none t z from m told x lawful shows =
    let runs = shows.runs (sym shows.stopped ∙ no_stop t (g.E.Engine.basis z) c.args.self.now.stop (sym c.is_some.ensures ∙ c.if-is_some.false)) in
    let b = c.in-Ok.ensures.rests t z from m told runs.is_kept.engine runs.is_kept.idle in
    left_rested t (g.E.Engine.basis z) (led t z from (g.E.Engine.view c.args.self.now.engine)) (led t z from (g.E.Engine.view c.checkpoint.new.self)) b.1.0

pub returns-in-Err-clause-stock : goal.returns-in-Err-clause-stock
returns-in-Err-clause-stock g c none t z from m told x lawful shows = not_halted (ap (λ (k : Core). k.stopped) c.halt.ensures.core) none
