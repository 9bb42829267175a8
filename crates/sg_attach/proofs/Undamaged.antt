-- An image of a store isn't refused as damaged.
use Rattle.std.proofs.Common.{◌≡◌, ◌⊎◌, ⊎_elim, ℕ, Bool, List, [], ◌∷◌, Option, Some, None, Ok, Err, refl, sym, ap, ◌∙◌, subst}
use mathlib.Core.Logic.{∥∥₁_elim}
use Rattle.sg_base.specs.declared.area.Area.{Area}
use Rattle.sg_base.specs.declared.area.Area.TheVariants.{Home}
use Rattle.sg_disk.specs.Disk.{Image, View}
use Rattle.sg_log.specs.Frames.{Numbered}
use Rattle.sg_log.specs.Formed as log
use Rattle.sg_log.proofs.Chain as chain
use Rattle.sg_log.proofs.Unique.{Frames-one}
use Rattle.sg_ops.specs.Table.{Table}
use Rattle.sg_gate.specs.Superblock.{superblock}
use Rattle.sg_gate.specs.declared.superblock.Super.{Super}
use Rattle.sg_gate.specs.declared.fault.GateFault.{GateFault}
use Rattle.std.specs.Prelude.{Result}
use Rattle.sg_record.specs.Records.{Says}
use Rattle.sg_record.specs.Records.Says.{Begin, Changed, TopEnd, PhysComp, TopVoid, CompEnd, Save, Commit, End, Checkpoint}
use Rattle.sg_recovery.specs.Formed.{IsLog}
use Rattle.sg_action.specs.States.{State}
use Rattle.sg_analysis.specs.Damage as analysis
use Rattle.sg_analysis.specs.Sights.{sight_by}
use Rattle.sg_analysis.specs.Standing.{IsPlausible, ArePlausible, IsPageLog}
use Rattle.sg_analysis.proofs.Undamaged.{undamaged}
use Rattle.sg_engine.specs.Engine.{Origin, log_area}
use Rattle.sg_find.specs.Synced.{reads}
use Rattle.sg_find.specs.declared.fault.OpenFault.{OpenFault}
use Rattle.sg_find.specs.declared.fault.OpenFault.TheVariants.{Damaged}
use Rattle.sg_opening.specs.Opening.{AreThere}
use Rattle.sg_open.specs.Found.{Opens}
use Rattle.sg_open.specs.Refusals.{StoreRefused, IsCause, IsBadLog}
use Rattle.sg_open.proofs.Refusing.{none_out}
use Rattle.sg_places.specs.Asked.{first_outside}
use Rattle.sg_actions.specs.Steps.{Steps}
use Rattle.sg_phys_laws.specs.Points.{IsMarked, AreMarked}
use Rattle.sg_phys_laws.specs.Recovers.{origin_of, records_in, point_in, super_in, IsSoundImage, RecoversBy}
use Rattle.sg_phys_laws.specs.States.{steps_of}
use Rattle.sg_phys_laws.proofs.Sighted.{steps_same}
use Rattle.sg_attach.proofs.Attached.{DoesBy}
use Rattle.sg_attach.proofs.Opens.{sound_opens, sound_there}

some_none : (at : ℕ) (x : Option ℕ) → x ≡ None → x ≡ Some at → ⊥
some_none at x none some = cc

-- no checkpoint of an image estimates more than its own number, and no record is a line
plausible_one : (lsn u p : ℕ) (says : Says) → IsMarked (λ k. Unit {0}) lsn says → IsPlausible lsn (sight_by u p says)
plausible_one lsn u p Begin m = tt
plausible_one lsn u p (Changed c) m = tt
plausible_one lsn u p (TopEnd w n) m = tt
plausible_one lsn u p (PhysComp w c) m = tt
plausible_one lsn u p (TopVoid w) m = tt
plausible_one lsn u p (CompEnd w) m = tt
plausible_one lsn u p (Save k) m = tt
plausible_one lsn u p Commit m = tt
plausible_one lsn u p End m = tt
plausible_one lsn u p (Checkpoint e l) m = m.1

plausible_all : (ns : List Numbered) → AreMarked (λ k. Unit {0}) ns → ArePlausible ns
plausible_all [] m = tt
plausible_all (n ∷ ns) m = (plausible_one n.lsn n.is.transaction n.is.previous n.is.says m.0, plausible_all ns m.1)

-- WHERE THE STEPS of a sound image's log are a formed log, it isn't damaged
module _ (t : Table) (c : Image) (s : IsSoundImage (origin_of t c) (point_in (origin_of t c) c) (records_in (origin_of t c) c) c) (formed : IsLog (super_in c).base (steps_of (records_in (origin_of t c) c))) where
  abbrev o : Origin
  o = origin_of t c

  abbrev ns : List Numbered
  ns = records_in o c

  pub is_page_log : IsPageLog o.super.base ns
  is_page_log = record { steps = subst (IsLog o.super.base) (sym (steps_same [] ns)) formed; plausible = plausible_all ns s.low }

  pub log_whole : (at : ℕ) → log.IsDamagedAt (c (log_area o.super)) o.super.base at ⊎ analysis.IsDamagedAt (c (log_area o.super)) o.super.base at → ⊥
  log_whole at h = ⊎_elim (λ d. chain.undamaged s.held d) (λ d. undamaged s.held is_page_log d) h

  -- nor has it a record of a page or a band that the store doesn't have
  pub none_outside : first_outside o.super.pages o.super.bands 0 s.held.frames ≡ None
  none_outside = none_out o.super.pages o.super.bands 0 o.super.base s.held.frames (subst (AreThere o.super.pages o.super.bands) (sym s.held.all) (sound_there t c s))

  not_bad : (at : ℕ) → IsBadLog o.super (c (log_area o.super)) at → ⊥
  not_bad at h = ⊎_elim (λ d. log_whole at d) (λ out.
      some_none at _ (ap (first_outside o.super.pages o.super.bands 0) (Frames-one (c (log_area o.super)) 0 out.0 s.held.frames out.1 s.held.stand) ∙ none_outside) out.2) h

  same_super : (x : Super) → superblock (c Home) ≡ Ok x → x ≡ o.super
  same_super x e = same (sym e ∙ s.super)
    where
      same : {a b : Super} → ◌≡◌ {A = Result Super GateFault} (Ok a) (Ok b) → a ≡ b
      same {a} {b} h = cc

  pub not_damaged : (area : Area) (at : ℕ) → IsCause t c (Damaged area at) → ⊥
  not_damaged area at h = ⊎_elim
      (λ home. clash (sym s.super ∙ home.1))
      (λ bad. not_bad at (subst (λ (x : Super). IsBadLog x (c (log_area x)) at) (same_super bad.0 bad.1) bad.3))
      h
    where
      clash : {a : Super} {e : GateFault} → ◌≡◌ {A = Result Super GateFault} (Ok a) (Err e) → ⊥
      clash {a} {e} k = cc

-- so are those of an image of a store
pub log_of : (t : Table) (c : Image) (rs : Steps) (x : State) → RecoversBy t c rs x → ∥ IsLog (super_in c).base (steps_of (records_in (origin_of t c) c)) ∥₁
log_of t c rs x r = subst (λ (log : Steps). ∥ IsLog (super_in c).base log ∥₁) r.holds.records r.holds.formed

-- SO IT IS REFUSED FOR NO DAMAGE,
pub never_damaged : (t : Table) (c : Image) (rs : Steps) (x : State) (area : Area) (at : ℕ) → RecoversBy t c rs x → IsCause t c (Damaged area at) → ⊥
never_damaged t c rs x area at r cause =
    ∥∥₁_elim r.holds.sound (λ a b. absurd a) (λ s. ∥∥₁_elim (log_of t c rs x r) (λ a b. absurd a) (λ formed. not_damaged t c s formed area at cause))

-- also where it is being opened
pub attach_undamaged : (told : Bool) (t : Table) (v w : View) (fault : OpenFault) (rs : Steps) (x : State) → RecoversBy t (reads v) rs x
    → ((q : Origin) (tail : ℕ) (ds : List Numbered) → DoesBy t q → Opens q tail ds v → StoreRefused told t q ds v w fault) → (area : Area) (at : ℕ) → fault ≡ Damaged area at → ⊥
attach_undamaged told t v w fault rs x r refused area at e =
    ∥∥₁_elim r.holds.sound (λ a b. absurd a) (λ s. ∥∥₁_elim (log_of t (reads v) rs x r) (λ a b. absurd a) (λ formed.
    let q : Origin = origin_of t (reads v) in
    let ds : List Numbered = records_in q (reads v) in
    let why : StoreRefused told t q ds v w (Damaged area at) = subst (λ (f : OpenFault). StoreRefused told t q ds v w f) e (refused q s.tail ds (λ lsn y. refl) (sound_opens t v s)) in
    log_whole t (reads v) s formed at why.1))
