use Rattle.std.specs.Prelude.{All, ◌<◌}
use Rattle.std.proofs.Common.{◌≡◌, ℕ, true, Err, List, [], ◌∷◌, ◌++◌, refl, sym, ap, ◌∙◌, subst, arith}
use Rattle.sg_core.specs.Live.{Txn, is_live, remarking}
use Rattle.sg_store.specs.Engine.{led, IsAt, IsDiskFault}
use Rattle.sg_store.specs.Seen.{core_of}
use Rattle.sg_store.specs.Asks.{ShowsSome}
use Rattle.sg_store.specs.Accounting.{AccountsFor}
use Rattle.sg_store.proofs.Calls as calls
use Rattle.sg_store.proofs.Saving as saving
use Rattle.sg_store.proofs.Serving.{serves_on}
use Rattle.sg_store.proofs.Serving as serving
use Rattle.sg_store.proofs.Resting as resting
use Rattle.sg_store.proofs.Causing as causing
use Rattle.sg_store.proofs.Holders.{all_hold, remarking_holders, below_remarking}
use Rattle.sg_store.proofs.Heeding as heeding
use Rattle.sg_store.proofs.Accounting as accounting
use Rattle.sg_store.proofs.Still.{not_halted}
use Rattle.sg_space.specs.declared.space.SpaceFault.TheVariants as spaces
use Rattle.sg_model.specs.declared.stop.Stop.TheVariants as stops
use Rattle.sg_store.proofs.store.Store.save.Goals as goal

pub returns-then-is_some-clause-saves : goal.returns-then-is_some-clause-saves
returns-then-is_some-clause-saves g c t z from m told x lawful shows =
    saving.save_stopped t (g.E.Engine.basis z) lawful (led t z from (g.E.Engine.view c.args.self.now.engine)) (core_of c.args.self.now) x c.args.txn.0 (led t z from (g.E.Engine.view c.args.self.now.engine)).faults shows (sym c.is_some.ensures ∙ c.if-is_some.true)

pub returns-then-not-is_live-clause-saves : goal.returns-then-not-is_live-clause-saves
returns-then-not-is_live-clause-saves g c t z from m told x lawful shows =
    saving.save_none t (g.E.Engine.basis z) lawful (led t z from (g.E.Engine.view c.args.self.now.engine)) (core_of c.args.self.now) x c.args.txn.0 (led t z from (g.E.Engine.view c.args.self.now.engine)).faults shows (sym c.is_some.ensures ∙ c.if-is_some.false) (sym c.is_live.ensures ∙ c.if-not-is_live.true)

pub returns-then-count-ge-MOST_MARKS-clause-saves : goal.returns-then-count-ge-MOST_MARKS-clause-saves
returns-then-count-ge-MOST_MARKS-clause-saves g c t z from m told x lawful shows =
    saving.save_full t (g.E.Engine.basis z) lawful (led t z from (g.E.Engine.view c.args.self.now.engine)) (core_of c.args.self.now) x c.args.txn.0 (led t z from (g.E.Engine.view c.args.self.now.engine)).faults shows (sym c.is_some.ensures ∙ c.if-is_some.false) (sym c.is_live.ensures ∙ c.if-not-is_live.false) (omega (arith, c.marks-count.ensures, c.if-count-ge-MOST_MARKS.true))

pub returns-then-tail-gt-NEW_WORK_END-clause-saves : goal.returns-then-tail-gt-NEW_WORK_END-clause-saves
returns-then-tail-gt-NEW_WORK_END-clause-saves g c t z from m told x lawful shows =
    saving.save_end t (g.E.Engine.basis z) lawful (led t z from (g.E.Engine.view c.args.self.now.engine)) (core_of c.args.self.now) x c.args.txn.0 (led t z from (g.E.Engine.view c.args.self.now.engine)).faults shows (sym c.is_some.ensures ∙ c.if-is_some.false) (sym c.is_live.ensures ∙ c.if-not-is_live.false) (omega (arith, c.marks-count.ensures, c.if-count-ge-MOST_MARKS.false)) (omega (arith, c.tail.ensures, c.if-tail-gt-NEW_WORK_END.true))

pub returns-in-Ok-clause-saves : goal.returns-in-Ok-clause-saves
returns-in-Ok-clause-saves g c t z from m told x lawful shows =
    let runs = shows.runs (sym shows.stopped ∙ calls.no_stop t (g.E.Engine.basis z) c.args.self.now.stop (sym c.is_some.ensures ∙ c.if-is_some.false)) in
    let b = c.in-Ok.ensures.saves t z from m told runs.is_kept.engine runs.is_kept.idle in
    saving.save_done t (g.E.Engine.basis z) lawful (led t z from (g.E.Engine.view c.args.self.now.engine)) (core_of c.args.self.now) x c.args.txn.0 (led t z from (g.E.Engine.view c.save.new.self)).faults shows (sym c.is_some.ensures ∙ c.if-is_some.false) (sym c.is_live.ensures ∙ c.if-not-is_live.false) (omega (arith, c.marks-count.ensures, c.if-count-ge-MOST_MARKS.false)) (led t z from (g.E.Engine.view c.save.new.self)) b.0 b.1 _ b.2 _ (ap (λ (ls : List Txn). record (core_of c.args.self.now) { live = ls }) c.push_mark.ensures.marks
    ∙ ap (λ (n : ℕ). record (core_of c.args.self.now) { live = remarking c.args.txn.0 (saving.more n) c.args.self.now.txns }) b.3.0) b.3.1 c.push_mark.result c.push_mark.ensures.number (omega (arith, c.tail.ensures, c.if-tail-gt-NEW_WORK_END.false))

pub returns-in-Err-clause-saves : goal.returns-in-Err-clause-saves
returns-in-Err-clause-saves g c t z from m told x lawful shows =
    let runs = shows.runs (sym shows.stopped ∙ calls.no_stop t (g.E.Engine.basis z) c.args.self.now.stop (sym c.is_some.ensures ∙ c.if-is_some.false)) in
    let b = c.save.ensures.saves t z from m told runs.is_kept.engine runs.is_kept.idle in
    saving.save_breaks t (g.E.Engine.basis z) lawful (led t z from (g.E.Engine.view c.args.self.now.engine)) (core_of c.args.self.now) x c.args.txn.0 (led t z from (g.E.Engine.view c.save.new.self)).faults shows (sym c.is_some.ensures ∙ c.if-is_some.false) (sym c.is_live.ensures ∙ c.if-not-is_live.false) (omega (arith, c.marks-count.ensures, c.if-count-ge-MOST_MARKS.false)) (led t z from (g.E.Engine.view c.save.new.self)) b.0 b.1 _ b.2 _ refl (calls.risen_for (g.E.Engine.view c.args.self.now.engine).tail (g.E.Engine.view c.args.self.now.engine).faults (g.E.Engine.view c.save.new.self).faults c.in-Err.field-0 (omega (arith, c.tail.ensures, c.if-tail-gt-NEW_WORK_END.false)) c.in-Err.ensures.log_end c.in-Err.ensures.counts.failed)

pub returns-in-Ok-clause-serves : goal.returns-in-Ok-clause-serves
returns-in-Ok-clause-serves g c t s =
    serves_on t (g.E.Engine.view c.args.self.now.engine) (g.E.Engine.view c.save.new.self) (core_of c.args.self.now) _ _ (λ z from m. c.save.ensures.means t z from m) (λ h. c.save.ensures.counts.told h)
    (λ z from m tells x lawful shows. returns-in-Ok-clause-saves g c t z from m tells x lawful shows) s

pub returns-in-Err-clause-serves : goal.returns-in-Err-clause-serves
returns-in-Err-clause-serves g c t s =
    serves_on t (g.E.Engine.view c.args.self.now.engine) (g.E.Engine.view c.save.new.self) (core_of c.args.self.now) _ _ (λ z from m. c.save.ensures.means t z from m) (λ h. c.save.ensures.counts.told h)
    (λ z from m tells x lawful shows. returns-in-Err-clause-saves g c t z from m tells x lawful shows) s

pub save-requires-clause-can : goal.save-requires-clause-can
save-requires-clause-can g c =
    let s = c.requires.serves in
    serving.asked_of s.0 (g.E.Engine.view c.args.self.now.engine) (ShowsSome (core_of c.args.self.now) s.0) (IsAt c.args.txn.0)
    (λ b v h. serving.goes_on s.0 b v c.args.self.now.txns c.args.txn.0 (sym c.is_live.ensures ∙ c.if-not-is_live.false) (serving.runs_some s.0 b v (core_of c.args.self.now) (sym c.is_some.ensures ∙ c.if-is_some.false) h)) s.1

pub save-requires-clause-mark : goal.save-requires-clause-mark
save-requires-clause-mark g c = record { some = omega arith; most = omega (arith, c.if-count-ge-MOST_MARKS.false) }

pub push_mark-requires-clause-live : goal.push_mark-requires-clause-live
push_mark-requires-clause-live g c = (sym c.is_live.ensures ∙ c.if-not-is_live.false)

pub push_mark-requires-clause-room : goal.push_mark-requires-clause-room
push_mark-requires-clause-room g c = omega (arith, c.marks-count.ensures, c.if-count-ge-MOST_MARKS.false)

pub returns-in-Ok-clause-rests : goal.returns-in-Ok-clause-rests
returns-in-Ok-clause-rests g c t live objects durable s =
    record {
      sizes = s.sizes;
      from = λ tells. s.from (c.save.ensures.counts.told tells);
      means = λ tells. c.save.ensures.means t s.sizes (s.from (c.save.ensures.counts.told tells)) (s.means (c.save.ensures.counts.told tells));
      can = λ tells.
          (let was = c.save.ensures.counts.told tells in
          let h = s.can was in
          resting.saved_has t (g.E.Engine.basis s.sizes) (led t s.sizes (s.from was) (g.E.Engine.view c.args.self.now.engine)) (led t s.sizes (s.from was) (g.E.Engine.view c.save.new.self)) (core_of c.args.self.now) _ live objects durable h (g.E.Engine.view c.args.self.now.engine).tail (g.E.Engine.view c.args.self.now.engine).faults (g.E.Engine.view c.save.new.self).faults c.args.txn.0 c.push_mark.result
          (returns-in-Ok-clause-saves g c t s.sizes (s.from was) (s.means was) was h.run h.lawful h.shows));
    }

pub returns-in-Ok-clause-told : goal.returns-in-Ok-clause-told
returns-in-Ok-clause-told g c h = c.save.ensures.counts.told h

pub returns-in-Err-clause-told : goal.returns-in-Err-clause-told
returns-in-Err-clause-told g c h = c.save.ensures.counts.told h

pub returns-then-is_some-clause-causes : goal.returns-then-is_some-clause-causes
returns-then-is_some-clause-causes g c = (sym c.is_some.ensures ∙ c.if-is_some.true, refl)

pub returns-then-not-is_live-clause-causes : goal.returns-then-not-is_live-clause-causes
returns-then-not-is_live-clause-causes g c = ((causing.none_of _ (sym c.is_some.ensures ∙ c.if-is_some.false)), sym c.is_live.ensures ∙ c.if-not-is_live.true, refl)

pub returns-then-count-ge-MOST_MARKS-clause-causes : goal.returns-then-count-ge-MOST_MARKS-clause-causes
returns-then-count-ge-MOST_MARKS-clause-causes g c = ((causing.none_of _ (sym c.is_some.ensures ∙ c.if-is_some.false)), (sym c.is_live.ensures ∙ c.if-not-is_live.false), omega (arith, c.marks-count.ensures, c.if-count-ge-MOST_MARKS.true), refl)

pub returns-then-tail-gt-NEW_WORK_END-clause-causes : goal.returns-then-tail-gt-NEW_WORK_END-clause-causes
returns-then-tail-gt-NEW_WORK_END-clause-causes g c = ((causing.none_of _ (sym c.is_some.ensures ∙ c.if-is_some.false)), (sym c.is_live.ensures ∙ c.if-not-is_live.false), (omega (arith, c.marks-count.ensures, c.if-count-ge-MOST_MARKS.false)), omega (arith, c.tail.ensures, c.if-tail-gt-NEW_WORK_END.true), refl)

pub returns-in-Ok-clause-causes : goal.returns-in-Ok-clause-causes
returns-in-Ok-clause-causes g c = ((causing.none_of _ (sym c.is_some.ensures ∙ c.if-is_some.false)), (sym c.is_live.ensures ∙ c.if-not-is_live.false), (omega (arith, c.marks-count.ensures, c.if-count-ge-MOST_MARKS.false)), (omega (arith, c.tail.ensures, c.if-tail-gt-NEW_WORK_END.false)), c.push_mark.ensures.number, (_, ap (λ (ls : List Txn). record (core_of c.args.self.now) { live = ls }) c.push_mark.ensures.marks))

pub returns-in-Err-clause-causes : goal.returns-in-Err-clause-causes
returns-in-Err-clause-causes g c = (
  (causing.none_of _ (sym c.is_some.ensures ∙ c.if-is_some.false)),
  (sym c.is_live.ensures ∙ c.if-not-is_live.false),
  (omega (arith, c.marks-count.ensures, c.if-count-ge-MOST_MARKS.false)),
  (omega (arith, c.tail.ensures, c.if-tail-gt-NEW_WORK_END.false)),
  causing.breaks (g.E.Engine.view c.args.self.now.engine) (g.E.Engine.view c.save.new.self) (core_of c.args.self.now) _ refl (calls.risen_for (g.E.Engine.view c.args.self.now.engine).tail (g.E.Engine.view c.args.self.now.engine).faults (g.E.Engine.view c.save.new.self).faults c.in-Err.field-0 (omega (arith, c.tail.ensures, c.if-tail-gt-NEW_WORK_END.false)) c.in-Err.ensures.log_end c.in-Err.ensures.counts.failed),
)

pub returns-then-is_some-clause-asks : goal.returns-then-is_some-clause-asks
returns-then-is_some-clause-asks g c = λ e. refl

pub returns-then-not-is_live-clause-asks : goal.returns-then-not-is_live-clause-asks
returns-then-not-is_live-clause-asks g c = λ e. refl

pub returns-then-count-ge-MOST_MARKS-clause-asks : goal.returns-then-count-ge-MOST_MARKS-clause-asks
returns-then-count-ge-MOST_MARKS-clause-asks g c = λ e. refl

pub returns-then-tail-gt-NEW_WORK_END-clause-asks : goal.returns-then-tail-gt-NEW_WORK_END-clause-asks
returns-then-tail-gt-NEW_WORK_END-clause-asks g c = λ e. refl

pub returns-in-Err-clause-asks : goal.returns-in-Err-clause-asks
returns-in-Err-clause-asks g c = λ e. absurd (e refl)

pub invariant_of-self : goal.invariant_of-self
invariant_of-self g c =
    let s = c.args.self.now in
    record {
      below = subst (λ (ks : List Txn). All (λ k. k.transaction < (g.E.Engine.view c.save.new.self).tail) ks) (sym c.push_mark.ensures.marks)
          (below_remarking c.args.txn.0 (g.E.Engine.view s.engine).tail (g.E.Engine.view c.save.new.self).tail (saving.more c.in-Ok.at) s.txns c.save.ensures.counts.tail s.below);
      holders = subst (λ (ks : List Txn). all_hold (is_live ks) s.locks ≡ true) (sym c.push_mark.ensures.marks) (remarking_holders c.args.txn.0 (saving.more c.in-Ok.at) s.txns s.locks s.holders);
    }

pub returns-then-is_some-clause-heeds : goal.returns-then-is_some-clause-heeds
returns-then-is_some-clause-heeds g c =
    heeding.heeds_none c.args.self.now.stop (g.E.Engine.view c.args.self.now.engine)

pub returns-then-not-is_live-clause-heeds : goal.returns-then-not-is_live-clause-heeds
returns-then-not-is_live-clause-heeds g c =
    heeding.heeds_none c.args.self.now.stop (g.E.Engine.view c.args.self.now.engine)

pub returns-then-count-ge-MOST_MARKS-clause-heeds : goal.returns-then-count-ge-MOST_MARKS-clause-heeds
returns-then-count-ge-MOST_MARKS-clause-heeds g c =
    heeding.heeds_none c.args.self.now.stop (g.E.Engine.view c.args.self.now.engine)

pub returns-then-tail-gt-NEW_WORK_END-clause-heeds : goal.returns-then-tail-gt-NEW_WORK_END-clause-heeds
returns-then-tail-gt-NEW_WORK_END-clause-heeds g c =
    heeding.heeds_none c.args.self.now.stop (g.E.Engine.view c.args.self.now.engine)

pub returns-in-Ok-clause-heeds : goal.returns-in-Ok-clause-heeds
returns-in-Ok-clause-heeds g c =
    heeding.heeds_well _ (g.E.Engine.view c.args.self.now.engine) (g.E.Engine.view c.save.new.self) c.in-Ok.ensures.counts.quiet c.save.ensures.counts.tail c.in-Ok.ensures.counts.tells (accounting.unfailed_done (g.E.Engine.view c.args.self.now.engine) (g.E.Engine.view c.save.new.self) _ c.in-Ok.ensures.counts.accounts)

pub returns-in-Err-clause-heeds : goal.returns-in-Err-clause-heeds
returns-in-Err-clause-heeds g c =
    heeding.heeds_fault c.args.self.now.stop spaces.Disk (g.E.Engine.view c.args.self.now.engine) (g.E.Engine.view c.save.new.self) (causing.none_of _ (sym c.is_some.ensures ∙ c.if-is_some.false)) c.save.ensures.counts.later c.save.ensures.counts.tail (λ is. calls.risen_for _ _ _ c.in-Err.field-0 (omega (arith, c.tail.ensures, c.if-tail-gt-NEW_WORK_END.false)) c.in-Err.ensures.log_end c.in-Err.ensures.counts.failed)
    (subst (λ f. AccountsFor {T = ℕ} IsDiskFault (g.E.Engine.view c.args.self.now.engine) (g.E.Engine.view c.save.new.self) (Err f)) (calls.disk_only _ c.in-Err.field-0 (omega (arith, c.tail.ensures, c.if-tail-gt-NEW_WORK_END.false)) c.in-Err.ensures.log_end) c.in-Err.ensures.counts.accounts)

pub returns-then-is_some-clause-stock : goal.returns-then-is_some-clause-stock
returns-then-is_some-clause-stock g c none t z from m told x lawful shows r shown = shown

pub returns-then-not-is_live-clause-stock : goal.returns-then-not-is_live-clause-stock
returns-then-not-is_live-clause-stock g c none t z from m told x lawful shows r shown = shown

pub returns-then-count-ge-MOST_MARKS-clause-stock : goal.returns-then-count-ge-MOST_MARKS-clause-stock
returns-then-count-ge-MOST_MARKS-clause-stock g c none t z from m told x lawful shows r shown = shown

pub returns-then-tail-gt-NEW_WORK_END-clause-stock : goal.returns-then-tail-gt-NEW_WORK_END-clause-stock
returns-then-tail-gt-NEW_WORK_END-clause-stock g c none t z from m told x lawful shows r shown = shown

pub returns-in-Ok-clause-stock : goal.returns-in-Ok-clause-stock
returns-in-Ok-clause-stock g c none t z from m told x lawful shows =
    let runs = shows.runs (sym shows.stopped ∙ calls.no_stop t (g.E.Engine.basis z) c.args.self.now.stop (sym c.is_some.ensures ∙ c.if-is_some.false)) in
    let b = c.in-Ok.ensures.saves t z from m told runs.is_kept.engine runs.is_kept.idle in
    saving.left_saved t (g.E.Engine.basis z) lawful (led t z from (g.E.Engine.view c.args.self.now.engine)) (led t z from (g.E.Engine.view c.save.new.self)) c.args.txn.0 b.0 b.1 _ b.3.1

pub returns-in-Err-clause-stock : goal.returns-in-Err-clause-stock
returns-in-Err-clause-stock g c none t z from m told x lawful shows = not_halted {why = stops.Disk} refl none
