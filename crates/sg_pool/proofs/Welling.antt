-- A page of slots or zeros stays one.
use Rattle.std.proofs.Common.{◌≡◌, ◌⊎◌, inl, inr, ⊎_elim, ℕ, Bool, true, false, List, length, ◌∙◌, sym, ap, subst, refl}
use Rattle.std.proofs.Math.Logic.{∥∥₁_elim}
use Rattle.std.proofs.Props.{props}
use Rattle.std.specs.Bool.{OnTrue, OnFalse}
use Rattle.std.specs.List.{refill}
use Rattle.sg_base.specs.Page.{IsSlotted}
use Rattle.sg_base.specs.Slotted.{is_slotted}
use Rattle.sg_base.proofs.Testing.{is_slotted_page, slotted_passes}
use Rattle.sg_pool.specs.Well.{IsWell}
use Rattle.sg_pool.proofs.Homed.{rewritten_whole}

-- where a record was done to it, or wasn't
applied_well : (is_done : Bool) (old new : List ℕ) → IsWell old → OnTrue is_done (IsSlotted new) → OnFalse is_done (new ≡ old) → IsWell new
applied_well true old new well slotted same = inl slotted
applied_well false old new well slotted same = subst IsWell (sym same) well

-- in the frame that was written
pub frame_well : (is_done : Bool) (old lent new : List ℕ) → IsWell old → lent ≡ old → length new ≡ length lent → OnTrue is_done (IsSlotted new) → OnFalse is_done (new ≡ lent) → IsWell (refill (length old) old new)
frame_well is_done old lent new well is long slotted same =
    let now = applied_well is_done lent new (subst IsWell (sym is) well) slotted same in
    subst IsWell (sym (rewritten_whole old new (long ∙ ap length is))) now

-- where records were repeated
pub repeated_well : (old new : List ℕ) → IsWell old → (new ≡ old) ⊎ IsSlotted new → IsWell new
repeated_well old new well is = ⊎_elim (λ same. subst IsWell (sym same) well) (λ slotted. inl slotted) is

-- which of the two can be told
not_both : false ≡ true → ⊥
not_both e = cc

pub well_of : (page : List ℕ) → ∥ IsWell page ∥₁ → IsWell page
well_of page known = by (is_slotted page) refl
  where
    by : (b : Bool) → is_slotted page ≡ b → IsWell page
    by true is = inl (is_slotted_page page is)
    by false not = inr (∥∥₁_elim known (hlevel props) (λ well. ⊎_elim (λ slotted. absurd (not_both (sym not ∙ slotted_passes page slotted))) (λ zeros. zeros) well))
