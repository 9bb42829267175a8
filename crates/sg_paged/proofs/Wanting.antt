-- WHICH NOTES WANT A PAGE: those whose first byte says that an entry comes back.
use Rattle.std.proofs.Common.{◌≡◌, ℕ, ◌==◌, Bool, true, false, List, refl, sym, subst, ◌∙◌, inl, inr}
use Rattle.std.specs.Prelude.{if◌then◌else◌}
use Rattle.std.proofs.lemmas.Bool.{cases_eq}
use Rattle.sg_recovery.proofs.Basic.{other_number}
use Rattle.sg_reading.specs.Back.{Undoing}
use Rattle.sg_reading.specs.Model.{wants_page}
use Rattle.sg_objects.specs.Notes.{undoing_said}

-- neither of two wants one
neither : (b : Bool) (u v : Undoing) → wants_page u ≡ false → wants_page v ≡ false → wants_page (if b then u else v) ≡ false
neither true u v h k = h
neither false u v h k = k

-- nor does the second, where the first isn't meant
second : (b : Bool) (u v : Undoing) → b ≡ false → wants_page v ≡ false → wants_page (if b then u else v) ≡ false
second true u v e h = absurd cc
second false u v e h = h

pub wants_is : (code : ℕ) (rest : List ℕ) → wants_page (undoing_said code rest) ≡ (code == 8)
wants_is code rest = elim (cases_eq code 8) as (λ _. wants_page (undoing_said code rest) ≡ (code == 8)) [
  | inl e ↦ subst (λ (n : ℕ). wants_page (undoing_said n rest) ≡ (n == 8)) (sym e) refl
  | inr ne ↦
      let other : (code == 8) ≡ false = other_number code 8 ne in
      neither (code == 1) _ _ refl
      (neither (code == 2) _ _ refl
      (neither (code == 3) _ _ refl
      (neither (code == 4) _ _ refl
      (neither (code == 5) _ _ refl
      (neither (code == 6) _ _ refl
      (neither (code == 7) _ _ refl
      (second (code == 8) _ _ other
      (neither (code == 9) _ _ refl refl)))))))) ∙ sym other
]
