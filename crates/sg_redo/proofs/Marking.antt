-- The marks of a window after replay, as a list.
use Rattle.std.proofs.Common.{◌≡◌, ◌<◌, ◌⊎◌, ◌↔◌, ◌||◌, ℕ, Bool, true, false, List, [], ◌∷◌, length, get_or, refl, sym, ◌∙◌, inl, inr, ⊎_elim, arith}
use Rattle.std.proofs.lemmas.List.{ext_get_or}
use Rattle.std.proofs.lemmas.List.FromFn.{length-map-range_with_len, get_or-map-range_with_len}
use Rattle.sg_redo.specs.History.{OnByte, IsCovered, is_covered}
use Rattle.sg_redo.specs.Window.{OnWindow, on_byte}
use Rattle.sg_redo.specs.Places.{marks_with}
use Rattle.sg_redo.proofs.InTurn.{Marks}

covered_true : (l : List OnByte) → IsCovered l → is_covered l ≡ true
covered_true [] covered = absurd covered
covered_true (w ∷ l) covered = refl

true_covered : (l : List OnByte) → is_covered l ≡ true → IsCovered l
true_covered [] e = absurd cc
true_covered (w ∷ l) e = tt

-- a mark that is there exactly where it was or the byte is covered
mark_is : (new old : Bool) (l : List OnByte) → (new ≡ true) ↔ ((old ≡ true) ⊎ IsCovered l) → new ≡ (old || is_covered l)
mark_is new true l both = both.1 (inl refl)
mark_is true false l both = ⊎_elim (λ e. absurd cc) (λ covered. sym (covered_true l covered)) (both.0 refl)
mark_is false false [] both = refl
mark_is false false (w ∷ l) both = both.1 (inr tt)

pub length-marks_with : (ws : List OnWindow) (marks : List Bool) → length (marks_with ws marks) ≡ length marks
unfolding marks_with
length-marks_with ws marks = length-map-range_with_len _ 0 (length marks)

pub mark_at : (ws : List OnWindow) (marks : List Bool) (k : ℕ) → k < length marks → get_or (marks_with ws marks) k false ≡ (get_or marks k false || is_covered (on_byte k ws))
unfolding marks_with
mark_at ws marks k lt = get_or-map-range_with_len _ 0 (length marks) k k false lt (omega arith)

-- marks that are exactly those are these
pub marks_are : (ws : List OnWindow) (old new : List Bool) → length new ≡ length old → Marks ws old new → new ≡ marks_with ws old
marks_are ws old new size marks =
    ext_get_or false new (marks_with ws old) (size ∙ sym (length-marks_with ws old))
    (λ k lt. let below : k < length old = omega (arith, size) in mark_is (get_or new k false) (get_or old k false) (on_byte k ws) (marks k) ∙ sym (mark_at ws old k below))
