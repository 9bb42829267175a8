use Rattle.std.proofs.Common.{◌≡◌, ℕ, Err, arith, sym, refl, ◌∙◌, subst}
use Rattle.sg_base.specs.Ends.{HasRisen}
use Rattle.sg_store.specs.declared.fault.TellFault.{TellFault}
use Rattle.sg_store.specs.declared.fault.TellFault.TheVariants as tells
use Rattle.sg_store.specs.Accounting.{AccountsFor}
use Rattle.sg_store.specs.Telling.{IsTellDisk, IsUntoldQuietly, CountsBy, HasTold}
use Rattle.sg_store.specs.declared.fault.Untold.TheVariants as untold
use Rattle.sg_model.specs.declared.stop.Stop.TheVariants as stops
use Rattle.sg_space.specs.declared.space.SpaceFault.TheVariants as spaces
use Rattle.sg_store.specs.Asks.{ShowsSome}
use Rattle.sg_store.specs.Engine.{led}
use Rattle.sg_store.specs.Seen.{core_of}
use Rattle.sg_store.specs.Verbs.{CanLook}
use Rattle.sg_store.proofs.Accounting as accounting
use Rattle.sg_store.proofs.Causing as causing
use Rattle.sg_store.proofs.Heeding as heeding
use Rattle.sg_store.proofs.Serving as serving
use Rattle.sg_store.proofs.Serving.{serves_on}
use Rattle.sg_store.proofs.Still.{left_rested, not_halted}
use Rattle.sg_store.proofs.Told as telling
use Rattle.sg_store.proofs.store.Store.objects.Goals as goal

pub tell-requires : goal.tell-requires
tell-requires g c =
    let s = c.requires.serves in
    record { can = serving.asked_of s.0 (g.E.Engine.view c.args.self.now.engine) (ShowsSome (core_of c.args.self.now) s.0) CanLook (λ b v h. serving.can_look s.0 b v c.args.self.now.txns (serving.runs_some s.0 b v (core_of c.args.self.now) (sym c.is_some.ensures ∙ c.if-is_some.false) h)) s.1 }

pub returns-then-is_some-clause-tells : goal.returns-then-is_some-clause-tells
returns-then-is_some-clause-tells g c t z from m told x lawful shows =
    let old = led t z from (g.E.Engine.view c.args.self.now.engine) in
    telling.tells_stopped g.L.Listener.ears c.args.to.now c.args.to.now t (g.E.Engine.basis z) lawful old (core_of c.args.self.now) x old.faults shows (sym c.is_some.ensures ∙ c.if-is_some.true)

pub returns-in-Ok-clause-tells : goal.returns-in-Ok-clause-tells
returns-in-Ok-clause-tells g c t z from m told x lawful shows =
    let b = g.E.Engine.basis z in
    let old = led t z from (g.E.Engine.view c.args.self.now.engine) in
    let new = led t z from (g.E.Engine.view c.tell.new.self) in
    let k = core_of c.args.self.now in
    let e = sym c.is_some.ensures ∙ c.if-is_some.false in
    let r = telling.runs g.L.Listener.ears c.args.to.now c.tell.new.to t b lawful old k x new.faults shows e in
    let o = telling.told_of g.L.Listener.ears c.args.to.now c.tell.new.to t b lawful old k x new.faults shows e in
    let h = c.in-Ok.ensures.tells t z from m told o r.is_kept.engine (telling.reads_told g.L.Listener.ears c.args.to.now c.tell.new.to t b lawful old k x new.faults shows e) in
    telling.tells_done g.L.Listener.ears c.args.to.now c.tell.new.to t b lawful old k x new.faults shows e new h.0 c.in-Ok.count h.1

pub returns-in-Err-Memory-clause-tells : goal.returns-in-Err-Memory-clause-tells
returns-in-Err-Memory-clause-tells g c t z from m told x lawful shows =
    let b = g.E.Engine.basis z in
    let old = led t z from (g.E.Engine.view c.args.self.now.engine) in
    let new = led t z from (g.E.Engine.view c.tell.new.self) in
    let k = core_of c.args.self.now in
    let e = sym c.is_some.ensures ∙ c.if-is_some.false in
    let r = telling.runs g.L.Listener.ears c.args.to.now c.tell.new.to t b lawful old k x new.faults shows e in
    let o = telling.told_of g.L.Listener.ears c.args.to.now c.tell.new.to t b lawful old k x new.faults shows e in
    let h = c.in-Err-Memory.ensures.tells t z from m told o r.is_kept.engine (telling.reads_told g.L.Listener.ears c.args.to.now c.tell.new.to t b lawful old k x new.faults shows e) in
    telling.tells_starved g.L.Listener.ears c.args.to.now c.tell.new.to t b lawful old k x new.faults shows e new h.0
    (subst (λ (f : TellFault). HasTold g.L.Listener.ears c.args.to.now c.tell.new.to t b old new o (Err f)) c.in-Err-Memory.field-0-is h.1)

pub returns-in-Err-Listener-clause-tells : goal.returns-in-Err-Listener-clause-tells
returns-in-Err-Listener-clause-tells g c t z from m told x lawful shows =
    let b = g.E.Engine.basis z in
    let old = led t z from (g.E.Engine.view c.args.self.now.engine) in
    let new = led t z from (g.E.Engine.view c.tell.new.self) in
    let k = core_of c.args.self.now in
    let e = sym c.is_some.ensures ∙ c.if-is_some.false in
    let r = telling.runs g.L.Listener.ears c.args.to.now c.tell.new.to t b lawful old k x new.faults shows e in
    let o = telling.told_of g.L.Listener.ears c.args.to.now c.tell.new.to t b lawful old k x new.faults shows e in
    let h = c.in-Err-Listener.ensures.tells t z from m told o r.is_kept.engine (telling.reads_told g.L.Listener.ears c.args.to.now c.tell.new.to t b lawful old k x new.faults shows e) in
    telling.tells_cut g.L.Listener.ears c.args.to.now c.tell.new.to t b lawful old k x new.faults shows e new h.0
    (subst (λ (f : TellFault). HasTold g.L.Listener.ears c.args.to.now c.tell.new.to t b old new o (Err f)) c.in-Err-Listener.field-0-is h.1)

pub returns-in-Err-Disk-clause-tells : goal.returns-in-Err-Disk-clause-tells
returns-in-Err-Disk-clause-tells g c t z from m told x lawful shows =
    let b = g.E.Engine.basis z in
    let old = led t z from (g.E.Engine.view c.args.self.now.engine) in
    let new = led t z from (g.E.Engine.view c.tell.new.self) in
    let k = core_of c.args.self.now in
    let e = sym c.is_some.ensures ∙ c.if-is_some.false in
    let r = telling.runs g.L.Listener.ears c.args.to.now c.tell.new.to t b lawful old k x new.faults shows e in
    let o = telling.told_of g.L.Listener.ears c.args.to.now c.tell.new.to t b lawful old k x new.faults shows e in
    let h = c.tell.ensures.tells t z from m told o r.is_kept.engine (telling.reads_told g.L.Listener.ears c.args.to.now c.tell.new.to t b lawful old k x new.faults shows e) in
    telling.tells_breaks g.L.Listener.ears c.args.to.now c.tell.new.to t b lawful old k x new.faults shows e new h.0 _ refl
    (subst (λ (f : TellFault). IsTellDisk f → HasRisen (g.E.Engine.view c.args.self.now.engine).faults (g.E.Engine.view c.tell.new.self).faults) c.in-Err-Disk.field-0-is c.in-Err-Disk.ensures.counts.failed tt)

pub returns-in-Ok-clause-serves : goal.returns-in-Ok-clause-serves
returns-in-Ok-clause-serves g c t s =
    serves_on t (g.E.Engine.view c.args.self.now.engine) (g.E.Engine.view c.tell.new.self) (core_of c.args.self.now) _ _ (λ z from m. c.tell.ensures.means t z from m) (λ h. c.tell.ensures.counts.told h)
    (λ z from m tells x lawful shows. returns-in-Ok-clause-tells g c t z from m tells x lawful shows) s

pub returns-in-Ok-clause-told : goal.returns-in-Ok-clause-told
returns-in-Ok-clause-told g c h = c.tell.ensures.counts.told h

pub returns-in-Err-Memory-clause-serves : goal.returns-in-Err-Memory-clause-serves
returns-in-Err-Memory-clause-serves g c t s =
    serves_on t (g.E.Engine.view c.args.self.now.engine) (g.E.Engine.view c.tell.new.self) (core_of c.args.self.now) _ _ (λ z from m. c.tell.ensures.means t z from m) (λ h. c.tell.ensures.counts.told h)
    (λ z from m tells x lawful shows. returns-in-Err-Memory-clause-tells g c t z from m tells x lawful shows) s

pub returns-in-Err-Memory-clause-told : goal.returns-in-Err-Memory-clause-told
returns-in-Err-Memory-clause-told g c h = c.tell.ensures.counts.told h

pub returns-in-Err-Listener-clause-serves : goal.returns-in-Err-Listener-clause-serves
returns-in-Err-Listener-clause-serves g c t s =
    serves_on t (g.E.Engine.view c.args.self.now.engine) (g.E.Engine.view c.tell.new.self) (core_of c.args.self.now) _ _ (λ z from m. c.tell.ensures.means t z from m) (λ h. c.tell.ensures.counts.told h)
    (λ z from m tells x lawful shows. returns-in-Err-Listener-clause-tells g c t z from m tells x lawful shows) s

pub returns-in-Err-Listener-clause-told : goal.returns-in-Err-Listener-clause-told
returns-in-Err-Listener-clause-told g c h = c.tell.ensures.counts.told h

pub returns-in-Err-Disk-clause-serves : goal.returns-in-Err-Disk-clause-serves
returns-in-Err-Disk-clause-serves g c t s =
    serves_on t (g.E.Engine.view c.args.self.now.engine) (g.E.Engine.view c.tell.new.self) (core_of c.args.self.now) _ _ (λ z from m. c.tell.ensures.means t z from m) (λ h. c.tell.ensures.counts.told h)
    (λ z from m tells x lawful shows. returns-in-Err-Disk-clause-tells g c t z from m tells x lawful shows) s

pub returns-in-Err-Disk-clause-told : goal.returns-in-Err-Disk-clause-told
returns-in-Err-Disk-clause-told g c h = c.tell.ensures.counts.told h

pub returns-in-Ok-clause-rests : goal.returns-in-Ok-clause-rests
returns-in-Ok-clause-rests g c t live objects durable s =
    telling.told_rests g.L.Listener.ears c.args.to.now c.tell.new.to t (g.E.Engine.view c.args.self.now.engine) (g.E.Engine.view c.tell.new.self) (core_of c.args.self.now) _ live objects durable
    (λ z from m. c.tell.ensures.means t z from m) (λ h. c.tell.ensures.counts.told h) s c.in-Ok.count
    (λ z from m told x lawful shows. returns-in-Ok-clause-tells g c t z from m told x lawful shows)

pub returns-then-is_some-clause-stock : goal.returns-then-is_some-clause-stock
returns-then-is_some-clause-stock g c none t z from m told x lawful shows r shown = shown

pub returns-in-Err-Disk-clause-stock : goal.returns-in-Err-Disk-clause-stock
returns-in-Err-Disk-clause-stock g c none t z from m told x lawful shows = not_halted {why = stops.Disk} refl none

pub returns-in-Ok-clause-stock : goal.returns-in-Ok-clause-stock
returns-in-Ok-clause-stock g c none t z from m told x lawful shows =
    let b = g.E.Engine.basis z in
    let old = led t z from (g.E.Engine.view c.args.self.now.engine) in
    let new = led t z from (g.E.Engine.view c.tell.new.self) in
    let e = sym c.is_some.ensures ∙ c.if-is_some.false in
    let r = telling.runs g.L.Listener.ears c.args.to.now c.tell.new.to t b lawful old (core_of c.args.self.now) x new.faults shows e in
    let o = telling.told_of g.L.Listener.ears c.args.to.now c.tell.new.to t b lawful old (core_of c.args.self.now) x new.faults shows e in
    let h = c.in-Ok.ensures.tells t z from m told o r.is_kept.engine (telling.reads_told g.L.Listener.ears c.args.to.now c.tell.new.to t b lawful old (core_of c.args.self.now) x new.faults shows e) in
    left_rested t b old new h.1.0

pub returns-in-Err-Memory-clause-stock : goal.returns-in-Err-Memory-clause-stock
returns-in-Err-Memory-clause-stock g c none t z from m told x lawful shows =
    let b = g.E.Engine.basis z in
    let old = led t z from (g.E.Engine.view c.args.self.now.engine) in
    let new = led t z from (g.E.Engine.view c.tell.new.self) in
    let e = sym c.is_some.ensures ∙ c.if-is_some.false in
    let r = telling.runs g.L.Listener.ears c.args.to.now c.tell.new.to t b lawful old (core_of c.args.self.now) x new.faults shows e in
    let o = telling.told_of g.L.Listener.ears c.args.to.now c.tell.new.to t b lawful old (core_of c.args.self.now) x new.faults shows e in
    let h = c.in-Err-Memory.ensures.tells t z from m told o r.is_kept.engine (telling.reads_told g.L.Listener.ears c.args.to.now c.tell.new.to t b lawful old (core_of c.args.self.now) x new.faults shows e) in
    let told_so = subst (λ (f : TellFault). HasTold g.L.Listener.ears c.args.to.now c.tell.new.to t b old new o (Err f)) c.in-Err-Memory.field-0-is h.1 in
    left_rested t b old new told_so

pub returns-in-Err-Listener-clause-stock : goal.returns-in-Err-Listener-clause-stock
returns-in-Err-Listener-clause-stock g c none t z from m told x lawful shows =
    let b = g.E.Engine.basis z in
    let old = led t z from (g.E.Engine.view c.args.self.now.engine) in
    let new = led t z from (g.E.Engine.view c.tell.new.self) in
    let e = sym c.is_some.ensures ∙ c.if-is_some.false in
    let r = telling.runs g.L.Listener.ears c.args.to.now c.tell.new.to t b lawful old (core_of c.args.self.now) x new.faults shows e in
    let o = telling.told_of g.L.Listener.ears c.args.to.now c.tell.new.to t b lawful old (core_of c.args.self.now) x new.faults shows e in
    let h = c.in-Err-Listener.ensures.tells t z from m told o r.is_kept.engine (telling.reads_told g.L.Listener.ears c.args.to.now c.tell.new.to t b lawful old (core_of c.args.self.now) x new.faults shows e) in
    let told_so = subst (λ (f : TellFault). HasTold g.L.Listener.ears c.args.to.now c.tell.new.to t b old new o (Err f)) c.in-Err-Listener.field-0-is h.1 in
    left_rested t b old new told_so.0

pub returns-then-is_some-clause-listener : goal.returns-then-is_some-clause-listener
returns-then-is_some-clause-listener g c = record { later = omega arith; counted = refl; same = refl }

pub returns-in-Err-Disk-clause-listener : goal.returns-in-Err-Disk-clause-listener
returns-in-Err-Disk-clause-listener g c = let h = c.tell.ensures.listener in record { later = h.later; counted = tt; same = h.same }

pub returns-in-Ok-clause-listener : goal.returns-in-Ok-clause-listener
returns-in-Ok-clause-listener g c = let h = c.in-Ok.ensures.listener in record { later = h.later; counted = h.counted; same = h.same }

pub returns-in-Ok-clause-causes : goal.returns-in-Ok-clause-causes
returns-in-Ok-clause-causes g c = ((causing.none_of _ (sym c.is_some.ensures ∙ c.if-is_some.false)), refl)

pub returns-in-Err-Memory-clause-listener : goal.returns-in-Err-Memory-clause-listener
returns-in-Err-Memory-clause-listener g c =
    let h = c.in-Err-Memory.ensures.listener in
    record { later = h.later; counted = subst (λ (f : TellFault). CountsBy {T = ℕ} g.L.Listener.ears c.args.to.now c.tell.new.to (Err f)) c.in-Err-Memory.field-0-is h.counted; same = h.same }

pub returns-in-Err-Memory-clause-causes : goal.returns-in-Err-Memory-clause-causes
returns-in-Err-Memory-clause-causes g c = ((causing.none_of _ (sym c.is_some.ensures ∙ c.if-is_some.false)), refl)

pub returns-in-Err-Listener-clause-listener : goal.returns-in-Err-Listener-clause-listener
returns-in-Err-Listener-clause-listener g c =
    let h = c.in-Err-Listener.ensures.listener in
    record { later = h.later; counted = subst (λ (f : TellFault). CountsBy {T = ℕ} g.L.Listener.ears c.args.to.now c.tell.new.to (Err f)) c.in-Err-Listener.field-0-is h.counted; same = h.same }

pub returns-in-Err-Listener-clause-causes : goal.returns-in-Err-Listener-clause-causes
returns-in-Err-Listener-clause-causes g c = ((causing.none_of _ (sym c.is_some.ensures ∙ c.if-is_some.false)), refl)

pub returns-then-is_some-clause-causes : goal.returns-then-is_some-clause-causes
returns-then-is_some-clause-causes g c = (sym c.is_some.ensures ∙ c.if-is_some.true, refl)

pub returns-in-Err-Disk-clause-causes : goal.returns-in-Err-Disk-clause-causes
returns-in-Err-Disk-clause-causes g c = (
  (causing.none_of _ (sym c.is_some.ensures ∙ c.if-is_some.false)),
  causing.breaks (g.E.Engine.view c.args.self.now.engine) (g.E.Engine.view c.tell.new.self) (core_of c.args.self.now) _ refl (subst (λ (f : TellFault). IsTellDisk f → HasRisen (g.E.Engine.view c.args.self.now.engine).faults (g.E.Engine.view c.tell.new.self).faults) c.in-Err-Disk.field-0-is c.in-Err-Disk.ensures.counts.failed tt),
)

pub returns-then-is_some-clause-asks : goal.returns-then-is_some-clause-asks
returns-then-is_some-clause-asks g c = λ e. refl

pub returns-in-Err-Memory-clause-asks : goal.returns-in-Err-Memory-clause-asks
returns-in-Err-Memory-clause-asks g c = λ e. absurd (let bad : untold.Memory ≡ untold.Stopped = e in cc)

pub returns-in-Err-Listener-clause-asks : goal.returns-in-Err-Listener-clause-asks
returns-in-Err-Listener-clause-asks g c = λ e. absurd (let bad : untold.Listener ≡ untold.Stopped = e in cc)

pub returns-in-Err-Disk-clause-asks : goal.returns-in-Err-Disk-clause-asks
returns-in-Err-Disk-clause-asks g c = λ e. absurd (let bad : untold.DiskFault ≡ untold.Stopped = e in cc)

pub returns-then-is_some-clause-heeds : goal.returns-then-is_some-clause-heeds
returns-then-is_some-clause-heeds g c = heeding.heeds_none c.args.self.now.stop (g.E.Engine.view c.args.self.now.engine)

pub returns-in-Ok-clause-heeds : goal.returns-in-Ok-clause-heeds
returns-in-Ok-clause-heeds g c =
    heeding.heeds_well _ (g.E.Engine.view c.args.self.now.engine) (g.E.Engine.view c.tell.new.self) c.in-Ok.ensures.counts.quiet c.tell.ensures.counts.tail c.in-Ok.ensures.counts.tells (accounting.unfailed_done (g.E.Engine.view c.args.self.now.engine) (g.E.Engine.view c.tell.new.self) _ c.in-Ok.ensures.counts.accounts)

pub returns-in-Err-Disk-clause-heeds : goal.returns-in-Err-Disk-clause-heeds
returns-in-Err-Disk-clause-heeds g c =
    let is = c.in-Err-Disk.field-0-is in
    heeding.heeds_fault c.args.self.now.stop spaces.Disk (g.E.Engine.view c.args.self.now.engine) (g.E.Engine.view c.tell.new.self) (causing.none_of _ (sym c.is_some.ensures ∙ c.if-is_some.false)) c.tell.ensures.counts.later c.tell.ensures.counts.tail
    (λ disk. subst (λ (f : TellFault). IsTellDisk f → HasRisen (g.E.Engine.view c.args.self.now.engine).faults (g.E.Engine.view c.tell.new.self).faults) is c.in-Err-Disk.ensures.counts.failed tt)
    (telling.told_accounts (g.E.Engine.view c.args.self.now.engine) (g.E.Engine.view c.tell.new.self) (subst (λ (f : TellFault). AccountsFor {T = ℕ} IsTellDisk (g.E.Engine.view c.args.self.now.engine) (g.E.Engine.view c.tell.new.self) (Err f)) is c.in-Err-Disk.ensures.counts.accounts))

pub returns-in-Err-Memory-clause-heeds : goal.returns-in-Err-Memory-clause-heeds
returns-in-Err-Memory-clause-heeds g c =
    let is = c.in-Err-Memory.field-0-is in
    let q = subst (λ (f : TellFault). IsUntoldQuietly (g.E.Engine.view c.args.self.now.engine) (g.E.Engine.view c.tell.new.self) f) is c.in-Err-Memory.ensures.quiet in
    heeding.heeds_well _ (g.E.Engine.view c.args.self.now.engine) (g.E.Engine.view c.tell.new.self) q.1 c.tell.ensures.counts.tail q.0
    (accounting.unfailed_refused {T = ℕ} {IsDisk = IsTellDisk} (g.E.Engine.view c.args.self.now.engine) (g.E.Engine.view c.tell.new.self) tells.Memory (λ disk. disk) (subst (λ (f : TellFault). AccountsFor {T = ℕ} IsTellDisk (g.E.Engine.view c.args.self.now.engine) (g.E.Engine.view c.tell.new.self) (Err f)) is c.in-Err-Memory.ensures.counts.accounts))

pub returns-in-Err-Listener-clause-heeds : goal.returns-in-Err-Listener-clause-heeds
returns-in-Err-Listener-clause-heeds g c =
    let is = c.in-Err-Listener.field-0-is in
    let q = subst (λ (f : TellFault). IsUntoldQuietly (g.E.Engine.view c.args.self.now.engine) (g.E.Engine.view c.tell.new.self) f) is c.in-Err-Listener.ensures.quiet in
    heeding.heeds_well _ (g.E.Engine.view c.args.self.now.engine) (g.E.Engine.view c.tell.new.self) q.1 c.tell.ensures.counts.tail q.0
    (accounting.unfailed_refused {T = ℕ} {IsDisk = IsTellDisk} (g.E.Engine.view c.args.self.now.engine) (g.E.Engine.view c.tell.new.self) tells.Listener (λ disk. disk) (subst (λ (f : TellFault). AccountsFor {T = ℕ} IsTellDisk (g.E.Engine.view c.args.self.now.engine) (g.E.Engine.view c.tell.new.self) (Err f)) is c.in-Err-Listener.ensures.counts.accounts))
