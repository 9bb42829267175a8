use Rattle.std.proofs.Common.{◌≡◌, ◌<◌, true, List, Some, None, Err, take, refl, sym, ap, ◌∙◌, subst, arith}
use Rattle.std.specs.Prelude.{All, IsSome}
use Rattle.sg_base.specs.Ends.{HasRisen}
use Rattle.sg_serial.specs.Runs.{nth_mark}
use Rattle.sg_ops.specs.Table.{table_of}
use Rattle.sg_core.specs.Live.{Txn, is_live, remarking, marks_of}
use Rattle.sg_room.specs.Steps.{backed}
use Rattle.sg_store.specs.Asks.{ShowsSome, HasMark}
use Rattle.sg_store.specs.Engine.{led}
use Rattle.sg_store.specs.Room.{is_behind, ShowsStock}
use Rattle.sg_store.specs.Seen.{core_of}
use Rattle.sg_store.specs.Stops.{stop_at}
use Rattle.sg_store.specs.Store.{Core}
use Rattle.sg_store.proofs.Accounting as accounting
use Rattle.sg_store.proofs.Causing as causing
use Rattle.sg_store.proofs.Ending.{near_at, IsNear}
use Rattle.sg_store.proofs.Heeding as heeding
use Rattle.sg_store.proofs.Holders.{all_hold, remarking_holders, below_remarking}
use Rattle.sg_store.proofs.Resting as resting
use Rattle.sg_store.proofs.Returning as returning
use Rattle.sg_store.proofs.Rolling as rolling
use Rattle.sg_store.proofs.Serving as serving
use Rattle.sg_store.proofs.Serving.{serves_on}
use Rattle.sg_store.proofs.store.Store.rollback_to.Given as given
use Rattle.sg_store.proofs.store.Store.rollback_to.Goals as goal

pub returns-then-is_some-clause-rolls_back : goal.returns-then-is_some-clause-rolls_back
returns-then-is_some-clause-rolls_back g c z from m told x lawful shows =
    let t = table_of (λ y. (given.RecordOp-dyn g y).record_meaning y.1) (λ y. (given.RangeOp-dyn g y).range_meaning y.1) c.args.ops.now in
    returning.roll_stopped t (g.E.Engine.basis z) lawful (led t z from (g.E.Engine.view c.args.self.now.engine)) (core_of c.args.self.now) x c.args.txn.0 c.args.mark shows (led t z from (g.E.Engine.view c.args.self.now.engine)).faults (sym c.is_some.ensures ∙ c.if-is_some.true)

pub returns-then-not-is_live-clause-rolls_back : goal.returns-then-not-is_live-clause-rolls_back
returns-then-not-is_live-clause-rolls_back g c z from m told x lawful shows =
    let t = table_of (λ y. (given.RecordOp-dyn g y).record_meaning y.1) (λ y. (given.RangeOp-dyn g y).range_meaning y.1) c.args.ops.now in
    returning.roll_none t (g.E.Engine.basis z) lawful (led t z from (g.E.Engine.view c.args.self.now.engine)) (core_of c.args.self.now) x c.args.txn.0 c.args.mark shows (sym c.is_some.ensures ∙ c.if-is_some.false) (led t z from (g.E.Engine.view c.args.self.now.engine)).faults (sym c.is_live.ensures ∙ c.if-not-is_live.true)

pub returns-in_default-clause-rolls_back : goal.returns-in_default-clause-rolls_back
returns-in_default-clause-rolls_back g c z from m told x lawful shows =
    let t = table_of (λ y. (given.RecordOp-dyn g y).record_meaning y.1) (λ y. (given.RangeOp-dyn g y).range_meaning y.1) c.args.ops.now in
    returning.roll_unmarked t (g.E.Engine.basis z) lawful (led t z from (g.E.Engine.view c.args.self.now.engine)) (core_of c.args.self.now) x c.args.txn.0 c.args.mark shows (sym c.is_some.ensures ∙ c.if-is_some.false) (sym c.is_live.ensures ∙ c.if-not-is_live.false) (led t z from (g.E.Engine.view c.args.self.now.engine)).faults (sym c.in_default.ensures)

pub returns-in-Err-clause-rolls_back : goal.returns-in-Err-clause-rolls_back
returns-in-Err-clause-rolls_back g c z from m told x lawful shows =
    let t = table_of (λ y. (given.RecordOp-dyn g y).record_meaning y.1) (λ y. (given.RangeOp-dyn g y).range_meaning y.1) c.args.ops.now in
    let kept = (returning.runs_now t (g.E.Engine.basis z) lawful (led t z from (g.E.Engine.view c.args.self.now.engine)) (core_of c.args.self.now) x c.args.txn.0 c.args.mark shows (sym c.is_some.ensures ∙ c.if-is_some.false)).is_kept in
    let live = returning.live t (g.E.Engine.basis z) lawful (led t z from (g.E.Engine.view c.args.self.now.engine)) (core_of c.args.self.now) x c.args.txn.0 c.args.mark shows (sym c.is_some.ensures ∙ c.if-is_some.false) (sym c.is_live.ensures ∙ c.if-not-is_live.false) in
    returning.along t (g.E.Engine.basis z) lawful (led t z from (g.E.Engine.view c.args.self.now.engine)) (core_of c.args.self.now) x c.args.txn.0 c.args.mark shows (sym c.is_some.ensures ∙ c.if-is_some.false) (sym c.is_live.ensures ∙ c.if-not-is_live.false) c.in-Some.at (sym c.in-Some.ensures) (led t z from (g.E.Engine.view c.undo_to.new.self.engine)) (led t z from (g.E.Engine.view c.halt.new.self.engine)) (core_of c.halt.new.self) (ap (λ e. led t z from (g.E.Engine.view e)) (sym c.halt.ensures.engine)) c.halt.result c.in-Err.fault c.halt.ensures.answer (c.undo_to.ensures.stays z from m told x lawful kept live)
    (ap (λ (k : Core). k.stopped) c.halt.ensures.core) c.in-Err.ensures.failed (near_at (g.E.Engine.view c.undo_to.new.self.engine).tail (led t z from (g.E.Engine.view c.undo_to.new.self.engine)).tail c.in-Err.fault (omega arith) c.in-Err.ensures.log_end)

pub returns-in-Ok-clause-rolls_back : goal.returns-in-Ok-clause-rolls_back
returns-in-Ok-clause-rolls_back g c z from m told x lawful shows =
    let t = table_of (λ y. (given.RecordOp-dyn g y).record_meaning y.1) (λ y. (given.RangeOp-dyn g y).range_meaning y.1) c.args.ops.now in
    let kept = (returning.runs_now t (g.E.Engine.basis z) lawful (led t z from (g.E.Engine.view c.args.self.now.engine)) (core_of c.args.self.now) x c.args.txn.0 c.args.mark shows (sym c.is_some.ensures ∙ c.if-is_some.false)).is_kept in
    let live = returning.live t (g.E.Engine.basis z) lawful (led t z from (g.E.Engine.view c.args.self.now.engine)) (core_of c.args.self.now) x c.args.txn.0 c.args.mark shows (sym c.is_some.ensures ∙ c.if-is_some.false) (sym c.is_live.ensures ∙ c.if-not-is_live.false) in
    returning.roll_done t (g.E.Engine.basis z) lawful (led t z from (g.E.Engine.view c.args.self.now.engine)) (core_of c.args.self.now) x c.args.txn.0 c.args.mark shows (sym c.is_some.ensures ∙ c.if-is_some.false) (sym c.is_live.ensures ∙ c.if-not-is_live.false) c.in-Some.at (sym c.in-Some.ensures) (led t z from (g.E.Engine.view c.undo_to.new.self.engine)) _ c.undo_to.new.self.txns (c.in-Ok.ensures.undone z from m told x lawful kept live) (c.undo_to.ensures.stays z from m told x lawful kept live)
    (ap (λ (ks : List Txn). record (core_of c.undo_to.new.self) { live = ks }) c.cut_marks.ensures ∙ ap (λ (k : Core). record k { live = remarking c.args.txn.0 (λ ms. take c.args.mark ms) c.undo_to.new.self.txns }) c.undo_to.ensures.core)

pub returns-in-Ok-clause-stock : goal.returns-in-Ok-clause-stock
returns-in-Ok-clause-stock g c z from m told x lawful shows at is r shown =
    let t = table_of (λ y. (given.RecordOp-dyn g y).record_meaning y.1) (λ y. (given.RangeOp-dyn g y).range_meaning y.1) c.args.ops.now in
    let kept = (returning.runs_now t (g.E.Engine.basis z) lawful (led t z from (g.E.Engine.view c.args.self.now.engine)) (core_of c.args.self.now) x c.args.txn.0 c.args.mark shows (sym c.is_some.ensures ∙ c.if-is_some.false)).is_kept in
    let live = returning.live t (g.E.Engine.basis z) lawful (led t z from (g.E.Engine.view c.args.self.now.engine)) (core_of c.args.self.now) x c.args.txn.0 c.args.mark shows (sym c.is_some.ensures ∙ c.if-is_some.false) (sym c.is_live.ensures ∙ c.if-not-is_live.false) in
    let same : c.in-Some.at ≡ at = some_is (c.in-Some.ensures ∙ is) in
    subst (λ i. ShowsStock t (g.E.Engine.basis z) (led t z from (g.E.Engine.view c.undo_to.new.self.engine)) (backed (is_behind c.args.txn.0 i) r)) same
    (rolling.back_all t (g.E.Engine.basis z) (led t z from (g.E.Engine.view c.args.self.now.engine)) (led t z from (g.E.Engine.view c.undo_to.new.self.engine)) c.args.txn.0 c.in-Some.at r (c.in-Ok.ensures.stock z from m told x lawful kept live)
    (rolling.low_notes t (g.E.Engine.basis z) (led t z from (g.E.Engine.view c.undo_to.new.self.engine)) _ x c.args.txn.0 c.in-Some.at (c.in-Ok.ensures.undone z from m told x lawful kept live)) shown)
  where
    some_is : {a b : Rattle.std.proofs.Common.ℕ} → Some a ≡ Some b → a ≡ b
    some_is e = cc

pub returns-in-Err-clause-serves : goal.returns-in-Err-clause-serves
returns-in-Err-clause-serves g c =
    let t = table_of (λ y. (given.RecordOp-dyn g y).record_meaning y.1) (λ y. (given.RangeOp-dyn g y).range_meaning y.1) c.args.ops.now in
    serves_on t (g.E.Engine.view c.args.self.now.engine) (g.E.Engine.view c.halt.new.self.engine) (core_of c.args.self.now) _ _ (λ z from m. subst (λ e. (g.E.Engine.view e).means t z from) (sym c.halt.ensures.engine) (c.undo_to.ensures.means z from m)) (λ h. c.undo_to.ensures.told (subst (λ e. (g.E.Engine.view e).Told) c.halt.ensures.engine h))
    (λ z from m tells x lawful shows. returns-in-Err-clause-rolls_back g c z from m tells x lawful shows) c.requires.serves

pub returns-in-Ok-clause-serves : goal.returns-in-Ok-clause-serves
returns-in-Ok-clause-serves g c =
    let t = table_of (λ y. (given.RecordOp-dyn g y).record_meaning y.1) (λ y. (given.RangeOp-dyn g y).range_meaning y.1) c.args.ops.now in
    serves_on t (g.E.Engine.view c.args.self.now.engine) (g.E.Engine.view c.undo_to.new.self.engine) (core_of c.args.self.now) _ _ (λ z from m. c.undo_to.ensures.means z from m) (λ h. c.undo_to.ensures.told h)
    (λ z from m tells x lawful shows. returns-in-Ok-clause-rolls_back g c z from m tells x lawful shows) c.requires.serves

pub undo_to-requires-clause-live : goal.undo_to-requires-clause-live
undo_to-requires-clause-live g c = (sym c.is_live.ensures ∙ c.if-not-is_live.false)

pub undo_to-requires-clause-can : goal.undo_to-requires-clause-can
undo_to-requires-clause-can g c =
    let t = table_of (λ y. (given.RecordOp-dyn g y).record_meaning y.1) (λ y. (given.RangeOp-dyn g y).range_meaning y.1) c.args.ops.now in
    serving.asked_for (g.E.Engine.view c.args.self.now.engine) (ShowsSome (core_of c.args.self.now) t) (HasMark c.args.self.now.txns c.args.txn.0 c.in-Some.at t)
    (λ b v h. record {
      lawful = h.lawful;
      run = h.run;
      kept = (returning.runs_now t b h.lawful v (core_of c.args.self.now) h.run c.args.txn.0 c.args.mark h.shows (sym c.is_some.ensures ∙ c.if-is_some.false)).is_kept;
      within = returning.within t b h.lawful v (core_of c.args.self.now) h.run c.args.txn.0 c.args.mark h.shows (sym c.is_some.ensures ∙ c.if-is_some.false) (sym c.is_live.ensures ∙ c.if-not-is_live.false) c.in-Some.at (sym c.in-Some.ensures);
    }) c.requires.serves

pub cut_marks-requires : goal.cut_marks-requires
cut_marks-requires g c = c.undo_to.ensures.live

pub invariant_of-self : goal.invariant_of-self
invariant_of-self g c =
    let s = c.undo_to.new.self in
    record {
      below = subst (λ (ks : List Txn). All (λ k. k.transaction < (g.E.Engine.view s.engine).tail) ks) (sym c.cut_marks.ensures) (below_remarking c.args.txn.0 (g.E.Engine.view s.engine).tail (g.E.Engine.view s.engine).tail (λ ms. take c.args.mark ms) s.txns (omega arith) s.below);
      holders = subst (λ (ks : List Txn). all_hold (is_live ks) s.locks ≡ true) (sym c.cut_marks.ensures) (remarking_holders c.args.txn.0 (λ ms. take c.args.mark ms) s.txns s.locks s.holders);
    }

pub returns-in-Err-clause-means : goal.returns-in-Err-clause-means
returns-in-Err-clause-means g c z from m =
    let t = table_of (λ y. (given.RecordOp-dyn g y).record_meaning y.1) (λ y. (given.RangeOp-dyn g y).range_meaning y.1) c.args.ops.now in
    subst (λ e. (g.E.Engine.view e).means t z from) (sym c.halt.ensures.engine) (c.undo_to.ensures.means z from m)

pub returns-in-Ok-clause-means : goal.returns-in-Ok-clause-means
returns-in-Ok-clause-means g c z from m =
    let t = table_of (λ y. (given.RecordOp-dyn g y).record_meaning y.1) (λ y. (given.RangeOp-dyn g y).range_meaning y.1) c.args.ops.now in
    c.undo_to.ensures.means z from m

pub returns-in-Err-clause-told : goal.returns-in-Err-clause-told
returns-in-Err-clause-told g c h = c.undo_to.ensures.told (subst (λ e. (g.E.Engine.view e).Told) c.halt.ensures.engine h)

pub returns-in-Ok-clause-told : goal.returns-in-Ok-clause-told
returns-in-Ok-clause-told g c h = c.undo_to.ensures.told h

pub returns-in-Ok-clause-rests : goal.returns-in-Ok-clause-rests
returns-in-Ok-clause-rests g c live objects durable s =
    let t = table_of (λ y. (given.RecordOp-dyn g y).record_meaning y.1) (λ y. (given.RangeOp-dyn g y).range_meaning y.1) c.args.ops.now in
    record {
      sizes = s.sizes;
      from = λ tells. s.from (c.undo_to.ensures.told tells);
      means = λ tells. c.undo_to.ensures.means s.sizes (s.from (c.undo_to.ensures.told tells)) (s.means (c.undo_to.ensures.told tells));
      can = λ tells.
          (let was = c.undo_to.ensures.told tells in
          let h = s.can was in
          resting.rolled_has t (g.E.Engine.basis s.sizes) (led t s.sizes (s.from was) (g.E.Engine.view c.args.self.now.engine)) (led t s.sizes (s.from was) (g.E.Engine.view c.undo_to.new.self.engine)) (core_of c.args.self.now) _ live objects durable h (g.E.Engine.view c.undo_to.new.self.engine).tail (g.E.Engine.view c.args.self.now.engine).faults (g.E.Engine.view c.undo_to.new.self.engine).faults c.args.txn.0 c.args.mark
          (returns-in-Ok-clause-rolls_back g c s.sizes (s.from was) (s.means was) was h.run h.lawful h.shows));
    }

pub returns-then-is_some-clause-causes : goal.returns-then-is_some-clause-causes
returns-then-is_some-clause-causes g c = (sym c.is_some.ensures ∙ c.if-is_some.true, refl)

pub returns-then-not-is_live-clause-causes : goal.returns-then-not-is_live-clause-causes
returns-then-not-is_live-clause-causes g c = ((causing.none_of _ (sym c.is_some.ensures ∙ c.if-is_some.false)), sym c.is_live.ensures ∙ c.if-not-is_live.true, refl)

pub returns-in_default-clause-causes : goal.returns-in_default-clause-causes
returns-in_default-clause-causes g c = ((causing.none_of _ (sym c.is_some.ensures ∙ c.if-is_some.false)), (sym c.is_live.ensures ∙ c.if-not-is_live.false), sym c.in_default.ensures, refl)

pub returns-in-Ok-clause-causes : goal.returns-in-Ok-clause-causes
returns-in-Ok-clause-causes g c = ((causing.none_of _ (sym c.is_some.ensures ∙ c.if-is_some.false)), (sym c.is_live.ensures ∙ c.if-not-is_live.false), (subst IsSome c.in-Some.ensures refl), ap (λ (k : Core). record k { live = c.cut_marks.new.self }) c.undo_to.ensures.core)

pub returns-in-Err-clause-causes : goal.returns-in-Err-clause-causes
returns-in-Err-clause-causes g c =
    causing.rolls_failed (g.E.Engine.view c.args.self.now.engine) (g.E.Engine.view c.halt.new.self.engine) (core_of c.args.self.now) (core_of c.halt.new.self) c.args.txn.0 c.args.mark (sym c.is_live.ensures ∙ c.if-not-is_live.false) (subst IsSome c.in-Some.ensures refl) c.in-Err.fault c.halt.result c.halt.ensures.answer c.undo_to.new.self.txns
    (c.halt.ensures.core ∙ ap (λ (q : Core). record q { stopped = Some (stop_at c.in-Err.fault) }) c.undo_to.ensures.core) (causing.none_of _ (sym c.is_some.ensures ∙ c.if-is_some.false))
    (λ d. subst (λ e. HasRisen (g.E.Engine.view c.args.self.now.engine).faults (g.E.Engine.view e).faults) (sym c.halt.ensures.engine) (c.in-Err.ensures.failed d))
    (subst (λ e. IsNear (g.E.Engine.view e).tail c.in-Err.fault) (sym c.halt.ensures.engine) (near_at (g.E.Engine.view c.undo_to.new.self.engine).tail (g.E.Engine.view c.undo_to.new.self.engine).tail c.in-Err.fault (omega arith) c.in-Err.ensures.log_end))

pub returns-then-is_some-clause-asks : goal.returns-then-is_some-clause-asks
returns-then-is_some-clause-asks g c = λ e. refl

pub returns-then-not-is_live-clause-asks : goal.returns-then-not-is_live-clause-asks
returns-then-not-is_live-clause-asks g c = λ e. refl

pub returns-in_default-clause-asks : goal.returns-in_default-clause-asks
returns-in_default-clause-asks g c = λ e. refl

pub returns-in-Err-clause-asks : goal.returns-in-Err-clause-asks
returns-in-Err-clause-asks g c = λ asks. causing.not_early _ c.in-Err.fault c.halt.result c.halt.ensures.answer asks

pub returns-then-is_some-clause-heeds : goal.returns-then-is_some-clause-heeds
returns-then-is_some-clause-heeds g c =
    heeding.heeds_none c.args.self.now.stop (g.E.Engine.view c.args.self.now.engine)

pub returns-then-not-is_live-clause-heeds : goal.returns-then-not-is_live-clause-heeds
returns-then-not-is_live-clause-heeds g c =
    heeding.heeds_none c.args.self.now.stop (g.E.Engine.view c.args.self.now.engine)

pub returns-in_default-clause-heeds : goal.returns-in_default-clause-heeds
returns-in_default-clause-heeds g c =
    heeding.heeds_none c.args.self.now.stop (g.E.Engine.view c.args.self.now.engine)

pub returns-in-Err-clause-heeds : goal.returns-in-Err-clause-heeds
returns-in-Err-clause-heeds g c =
    heeding.heeds_halt (g.E.Engine.view) c.args.self.now.stop c.halt.new.self.stop c.in-Err.fault (g.E.Engine.view c.args.self.now.engine) c.undo_to.new.self.engine c.halt.new.self.engine c.halt.ensures.engine (ap (λ (k : Core). k.stopped) c.halt.ensures.core) (causing.none_of _ (sym c.is_some.ensures ∙ c.if-is_some.false))
    c.undo_to.ensures.later c.undo_to.ensures.tail c.in-Err.ensures.failed c.in-Err.ensures.accounts

pub returns-in-Ok-clause-heeds : goal.returns-in-Ok-clause-heeds
returns-in-Ok-clause-heeds g c =
    heeding.heeds_kept (g.E.Engine.view) c.args.self.now.stop c.undo_to.new.self.stop (g.E.Engine.view c.args.self.now.engine) c.undo_to.new.self.engine c.undo_to.new.self.engine refl (ap (λ (k : Core). k.stopped) c.undo_to.ensures.core)
    c.in-Ok.ensures.quiet c.undo_to.ensures.tail c.in-Ok.ensures.tells (accounting.unfailed_done (g.E.Engine.view c.args.self.now.engine) (g.E.Engine.view c.undo_to.new.self.engine) _ c.in-Ok.ensures.accounts)
