use Rattle.std.proofs.Common.{◌≡◌, ℕ, true, Err, List, [], ◌∷◌, ◌++◌, refl, sym, ap, ◌∙◌, subst, arith}
use Rattle.sg_core.specs.Live.{Txn, begun, is_live}
use Rattle.sg_store.specs.Engine.{led, HasPlace, IsDiskFault}
use Rattle.sg_store.specs.Seen.{core_of}
use Rattle.sg_store.proofs.Calls as calls
use Rattle.sg_store.proofs.Serving.{serves_on}
use Rattle.sg_store.proofs.Serving as serving
use Rattle.sg_store.specs.Asks.{ShowsSome}
use Rattle.sg_store.proofs.Resting as resting
use Rattle.sg_store.proofs.Causing as causing
use Rattle.sg_store.proofs.Holders.{all_hold, begun_holders}
use Rattle.sg_store.proofs.Heeding as heeding
use Rattle.sg_space.specs.declared.space.SpaceFault.TheVariants as spaces
use Rattle.sg_store.proofs.Accounting as accounting
use Rattle.sg_store.specs.Accounting.{AccountsFor}
use Rattle.sg_base.specs.declared.numbers.TxnId.{TxnId}
use Rattle.sg_store.proofs.Still.{left_begun, not_halted}
use Rattle.sg_model.specs.declared.stop.Stop.TheVariants as stops
use Rattle.sg_store.proofs.store.Store.begin.Goals as goal

pub returns-then-is_some-clause-begins : goal.returns-then-is_some-clause-begins
returns-then-is_some-clause-begins g c t z from m told x name lawful shows =
    let old = led t z from (g.E.Engine.view c.args.self.now.engine) in
    calls.begin_stopped t (g.E.Engine.basis z) old (core_of c.args.self.now) x name old.faults shows (sym c.is_some.ensures ∙ c.if-is_some.true)

pub returns-then-count-ge-MOST_LIVE-clause-begins : goal.returns-then-count-ge-MOST_LIVE-clause-begins
returns-then-count-ge-MOST_LIVE-clause-begins g c t z from m told x name lawful shows =
    let old = led t z from (g.E.Engine.view c.args.self.now.engine) in
    calls.begin_many t (g.E.Engine.basis z) old (core_of c.args.self.now) x name old.faults shows (sym c.is_some.ensures ∙ c.if-is_some.false) (omega (arith, c.count.ensures, c.if-count-ge-MOST_LIVE.true))

pub returns-then-tail-gt-NEW_WORK_END-clause-begins : goal.returns-then-tail-gt-NEW_WORK_END-clause-begins
returns-then-tail-gt-NEW_WORK_END-clause-begins g c t z from m told x name lawful shows =
    let old = led t z from (g.E.Engine.view c.args.self.now.engine) in
    calls.begin_end t (g.E.Engine.basis z) old (core_of c.args.self.now) x name old.faults shows (sym c.is_some.ensures ∙ c.if-is_some.false) (omega (arith, c.count.ensures, c.if-count-ge-MOST_LIVE.false)) (omega (arith, c.tail.ensures, c.if-tail-gt-NEW_WORK_END.true))

pub returns-in-Ok-clause-begins : goal.returns-in-Ok-clause-begins
returns-in-Ok-clause-begins g c t z from m told x name lawful shows =
    let old = led t z from (g.E.Engine.view c.args.self.now.engine) in
    let new = led t z from (g.E.Engine.view c.begin.new.self) in
    let stop = sym c.is_some.ensures ∙ c.if-is_some.false in
    let runs = shows.runs (sym shows.stopped ∙ calls.no_stop t (g.E.Engine.basis z) c.args.self.now.stop stop) in
    let b = c.in-Ok.ensures.begins t z from m told runs.is_kept.engine runs.is_kept.idle in
    calls.begun_goes t (g.E.Engine.basis z) old (core_of c.args.self.now) x name new.faults shows lawful stop (omega (arith, c.count.ensures, c.if-count-ge-MOST_LIVE.false)) new b.0 b.1 _ (ap (λ (ls : List Txn). record (core_of c.args.self.now) { live = ls }) c.add.ensures ∙ ap (λ (n : ℕ). record (core_of c.args.self.now) { live = c.args.self.now.txns ++ begun n ∷ [] }) b.2.0) b.2.1 c.in-Ok.txn b.2.0 (omega (arith, c.tail.ensures, c.if-tail-gt-NEW_WORK_END.false))

pub returns-in-Err-clause-begins : goal.returns-in-Err-clause-begins
returns-in-Err-clause-begins g c t z from m told x name lawful shows =
    let old = led t z from (g.E.Engine.view c.args.self.now.engine) in
    let new = led t z from (g.E.Engine.view c.begin.new.self) in
    let stop = sym c.is_some.ensures ∙ c.if-is_some.false in
    let runs = shows.runs (sym shows.stopped ∙ calls.no_stop t (g.E.Engine.basis z) c.args.self.now.stop stop) in
    let b = c.begin.ensures.begins t z from m told runs.is_kept.engine runs.is_kept.idle in
    calls.begin_breaks t (g.E.Engine.basis z) old (core_of c.args.self.now) x name new.faults shows lawful stop (omega (arith, c.count.ensures, c.if-count-ge-MOST_LIVE.false)) new b.0 b.1 _ refl (calls.risen_for old.tail old.faults new.faults c.in-Err.field-0 (omega (arith, c.tail.ensures, c.if-tail-gt-NEW_WORK_END.false)) c.in-Err.ensures.log_end c.in-Err.ensures.counts.failed)

pub returns-in-Ok-clause-serves : goal.returns-in-Ok-clause-serves
returns-in-Ok-clause-serves g c t s =
    serves_on t (g.E.Engine.view c.args.self.now.engine) (g.E.Engine.view c.begin.new.self) (core_of c.args.self.now) _ _ (λ z from m. c.begin.ensures.means t z from m) (λ h. c.begin.ensures.counts.told h)
    (λ z from m tells x lawful shows. returns-in-Ok-clause-begins g c t z from m tells x [] lawful shows) s

pub returns-in-Err-clause-serves : goal.returns-in-Err-clause-serves
returns-in-Err-clause-serves g c t s =
    serves_on t (g.E.Engine.view c.args.self.now.engine) (g.E.Engine.view c.begin.new.self) (core_of c.args.self.now) _ _ (λ z from m. c.begin.ensures.means t z from m) (λ h. c.begin.ensures.counts.told h)
    (λ z from m tells x lawful shows. returns-in-Err-clause-begins g c t z from m tells x [] lawful shows) s

pub begin-requires : goal.begin-requires
begin-requires g c =
    let s = c.requires.serves in
    record { can = serving.asked_of s.0 (g.E.Engine.view c.args.self.now.engine) (ShowsSome (core_of c.args.self.now) s.0) HasPlace (λ b v h. serving.has_place s.0 b v c.args.self.now.txns (omega (arith, c.count.ensures, c.if-count-ge-MOST_LIVE.false)) (serving.runs_some s.0 b v (core_of c.args.self.now) (sym c.is_some.ensures ∙ c.if-is_some.false) h)) s.1 }

pub returns-in-Ok-clause-rests : goal.returns-in-Ok-clause-rests
returns-in-Ok-clause-rests g c t live objects durable s =
    record {
      sizes = s.sizes;
      from = λ tells. s.from (c.begin.ensures.counts.told tells);
      means = λ tells. c.begin.ensures.means t s.sizes (s.from (c.begin.ensures.counts.told tells)) (s.means (c.begin.ensures.counts.told tells));
      can = λ tells.
          (let was = c.begin.ensures.counts.told tells in
          let h = s.can was in
          resting.begun_has t (g.E.Engine.basis s.sizes) (led t s.sizes (s.from was) (g.E.Engine.view c.args.self.now.engine)) (led t s.sizes (s.from was) (g.E.Engine.view c.begin.new.self)) (core_of c.args.self.now) _ live objects durable h (g.E.Engine.view c.args.self.now.engine).tail (g.E.Engine.view c.args.self.now.engine).faults (g.E.Engine.view c.begin.new.self).faults [] c.in-Ok.txn
          (returns-in-Ok-clause-begins g c t s.sizes (s.from was) (s.means was) was h.run [] h.lawful h.shows));
    }

pub returns-in-Ok-clause-told : goal.returns-in-Ok-clause-told
returns-in-Ok-clause-told g c h = c.begin.ensures.counts.told h

pub returns-in-Err-clause-told : goal.returns-in-Err-clause-told
returns-in-Err-clause-told g c h = c.begin.ensures.counts.told h

pub returns-then-is_some-clause-causes : goal.returns-then-is_some-clause-causes
returns-then-is_some-clause-causes g c = (sym c.is_some.ensures ∙ c.if-is_some.true, refl)

pub returns-then-count-ge-MOST_LIVE-clause-causes : goal.returns-then-count-ge-MOST_LIVE-clause-causes
returns-then-count-ge-MOST_LIVE-clause-causes g c = ((causing.none_of _ (sym c.is_some.ensures ∙ c.if-is_some.false)), omega (arith, c.count.ensures, c.if-count-ge-MOST_LIVE.true), refl)

pub returns-then-tail-gt-NEW_WORK_END-clause-causes : goal.returns-then-tail-gt-NEW_WORK_END-clause-causes
returns-then-tail-gt-NEW_WORK_END-clause-causes g c = ((causing.none_of _ (sym c.is_some.ensures ∙ c.if-is_some.false)), omega (arith, c.count.ensures, c.if-count-ge-MOST_LIVE.false), omega (arith, c.tail.ensures, c.if-tail-gt-NEW_WORK_END.true), refl)

pub returns-in-Ok-clause-causes : goal.returns-in-Ok-clause-causes
returns-in-Ok-clause-causes g c = ((causing.none_of _ (sym c.is_some.ensures ∙ c.if-is_some.false)), omega (arith, c.count.ensures, c.if-count-ge-MOST_LIVE.false), omega (arith, c.tail.ensures, c.if-tail-gt-NEW_WORK_END.false), ap (λ (ls : List Txn). record (core_of c.args.self.now) { live = ls }) c.add.ensures)

pub returns-in-Err-clause-causes : goal.returns-in-Err-clause-causes
returns-in-Err-clause-causes g c = (
  (causing.none_of _ (sym c.is_some.ensures ∙ c.if-is_some.false)),
  omega (arith, c.count.ensures, c.if-count-ge-MOST_LIVE.false),
  omega (arith, c.tail.ensures, c.if-tail-gt-NEW_WORK_END.false),
  causing.breaks (g.E.Engine.view c.args.self.now.engine) (g.E.Engine.view c.begin.new.self) (core_of c.args.self.now) _ refl (calls.risen_for (g.E.Engine.view c.args.self.now.engine).tail (g.E.Engine.view c.args.self.now.engine).faults (g.E.Engine.view c.begin.new.self).faults c.in-Err.field-0 (omega (arith, c.tail.ensures, c.if-tail-gt-NEW_WORK_END.false)) c.in-Err.ensures.log_end c.in-Err.ensures.counts.failed),
)

pub returns-then-is_some-clause-asks : goal.returns-then-is_some-clause-asks
returns-then-is_some-clause-asks g c = λ e. refl

pub returns-then-count-ge-MOST_LIVE-clause-asks : goal.returns-then-count-ge-MOST_LIVE-clause-asks
returns-then-count-ge-MOST_LIVE-clause-asks g c = λ e. refl

pub returns-then-tail-gt-NEW_WORK_END-clause-asks : goal.returns-then-tail-gt-NEW_WORK_END-clause-asks
returns-then-tail-gt-NEW_WORK_END-clause-asks g c = λ e. refl

pub returns-in-Err-clause-asks : goal.returns-in-Err-clause-asks
returns-in-Err-clause-asks g c = λ e. absurd (e refl)

pub invariant_of-self-clause-holders : goal.invariant_of-self-clause-holders
invariant_of-self-clause-holders g c = let s = c.args.self.now in subst (λ (ks : List Txn). all_hold (is_live ks) s.locks ≡ true) (sym c.add.ensures) (begun_holders s.txns c.in-Ok.txn.0 s.locks s.holders)

pub returns-then-is_some-clause-heeds : goal.returns-then-is_some-clause-heeds
returns-then-is_some-clause-heeds g c =
    heeding.heeds_none c.args.self.now.stop (g.E.Engine.view c.args.self.now.engine)

pub returns-then-count-ge-MOST_LIVE-clause-heeds : goal.returns-then-count-ge-MOST_LIVE-clause-heeds
returns-then-count-ge-MOST_LIVE-clause-heeds g c =
    heeding.heeds_none c.args.self.now.stop (g.E.Engine.view c.args.self.now.engine)

pub returns-then-tail-gt-NEW_WORK_END-clause-heeds : goal.returns-then-tail-gt-NEW_WORK_END-clause-heeds
returns-then-tail-gt-NEW_WORK_END-clause-heeds g c =
    heeding.heeds_none c.args.self.now.stop (g.E.Engine.view c.args.self.now.engine)

pub returns-in-Ok-clause-heeds : goal.returns-in-Ok-clause-heeds
returns-in-Ok-clause-heeds g c =
    heeding.heeds_well _ (g.E.Engine.view c.args.self.now.engine) (g.E.Engine.view c.begin.new.self) c.in-Ok.ensures.counts.quiet c.begin.ensures.counts.tail c.in-Ok.ensures.counts.tells (accounting.unfailed_done (g.E.Engine.view c.args.self.now.engine) (g.E.Engine.view c.begin.new.self) _ c.in-Ok.ensures.counts.accounts)

pub returns-in-Err-clause-heeds : goal.returns-in-Err-clause-heeds
returns-in-Err-clause-heeds g c =
    heeding.heeds_fault c.args.self.now.stop spaces.Disk (g.E.Engine.view c.args.self.now.engine) (g.E.Engine.view c.begin.new.self) (causing.none_of _ (sym c.is_some.ensures ∙ c.if-is_some.false)) c.begin.ensures.counts.later c.begin.ensures.counts.tail (λ is. calls.risen_for _ _ _ c.in-Err.field-0 (omega (arith, c.tail.ensures, c.if-tail-gt-NEW_WORK_END.false)) c.in-Err.ensures.log_end c.in-Err.ensures.counts.failed)
    (subst (λ f. AccountsFor {T = TxnId} IsDiskFault (g.E.Engine.view c.args.self.now.engine) (g.E.Engine.view c.begin.new.self) (Err f)) (calls.disk_only _ c.in-Err.field-0 (omega (arith, c.tail.ensures, c.if-tail-gt-NEW_WORK_END.false)) c.in-Err.ensures.log_end) c.in-Err.ensures.counts.accounts)

pub returns-then-is_some-clause-stock : goal.returns-then-is_some-clause-stock
returns-then-is_some-clause-stock g c none t z from m told x lawful shows r shown = shown

pub returns-then-count-ge-MOST_LIVE-clause-stock : goal.returns-then-count-ge-MOST_LIVE-clause-stock
returns-then-count-ge-MOST_LIVE-clause-stock g c none t z from m told x lawful shows r shown = shown

pub returns-then-tail-gt-NEW_WORK_END-clause-stock : goal.returns-then-tail-gt-NEW_WORK_END-clause-stock
returns-then-tail-gt-NEW_WORK_END-clause-stock g c none t z from m told x lawful shows r shown = shown

pub returns-in-Ok-clause-stock : goal.returns-in-Ok-clause-stock
returns-in-Ok-clause-stock g c none t z from m told x lawful shows =
    let old = led t z from (g.E.Engine.view c.args.self.now.engine) in
    let new = led t z from (g.E.Engine.view c.begin.new.self) in
    let runs = shows.runs (sym shows.stopped ∙ calls.no_stop t (g.E.Engine.basis z) c.args.self.now.stop (sym c.is_some.ensures ∙ c.if-is_some.false)) in
    let b = c.in-Ok.ensures.begins t z from m told runs.is_kept.engine runs.is_kept.idle in
    left_begun t (g.E.Engine.basis z) old new b.0 b.2.1

pub returns-in-Err-clause-stock : goal.returns-in-Err-clause-stock
returns-in-Err-clause-stock g c none t z from m told x lawful shows = not_halted {why = stops.Disk} refl none
