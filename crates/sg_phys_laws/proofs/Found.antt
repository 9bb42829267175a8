-- The step with a number is that of a record that stands there.
use Rattle.std.proofs.Common.{◌≡◌, ◌⊎◌, inl, inr, ⊎_elim, ℕ, ◌==◌, Bool, true, false, List, [], ◌∷◌, Option, Some, None, refl, ◌∙◌, arith}
use Rattle.std.specs.Prelude.{if◌then◌else◌}
use Rattle.std.proofs.lemmas.Bool.Decides.{nat_tests}
use Rattle.sg_log.specs.Frames.{Numbered}
use Rattle.sg_log.specs.Places.{StandsAt}
use Rattle.sg_record.specs.Records.{Record}
use Rattle.sg_actions.specs.Steps.{Step, Steps, step_of, step_at, with_step}
use Rattle.sg_phys_laws.specs.States.{steps_on, steps_of}

-- it is found among those before, or it is one of these records
pub record IsFound (ns : List Numbered) (at : ℕ) (x : Step) : Type 0 where
  pub r : Record
  pub stands : StandsAt ns at r
  pub is : step_of r ≡ Some x

behind : (n : Numbered) (ns : List Numbered) (at : ℕ) (x : Step) → IsFound ns at x → IsFound (n ∷ ns) at x
behind n ns at x f = record { r = f.r; stands = inr f.stands; is = f.is }

first : (rs : Steps) (n : Numbered) (ns : List Numbered) (at : ℕ) (x : Step) (o : Option Step) → step_of n.is ≡ o → step_at (with_step rs n.lsn o) at ≡ Some x → (step_at rs at ≡ Some x) ⊎ IsFound (n ∷ ns) at x
first rs n ns at x None is e = inl e
first rs n ns at x (Some y) is e = by (n.lsn == at) refl e
  where
    by : (b : Bool) → (n.lsn == at) ≡ b → (if b then Some y else step_at rs at) ≡ Some x → (step_at rs at ≡ Some x) ⊎ IsFound (n ∷ ns) at x
    by true same f = inr (record { r = n.is; stands = inl (grind (arith, nat_tests, same), refl); is = is ∙ f })
    by false other f = inl f

pub found_on : (rs : Steps) (ns : List Numbered) (at : ℕ) (x : Step) → step_at (steps_on rs ns) at ≡ Some x → (step_at rs at ≡ Some x) ⊎ IsFound ns at x
found_on rs [] at x e = inl e
found_on rs (n ∷ ns) at x e = ⊎_elim
    (λ before. first rs n ns at x (step_of n.is) refl before)
    (λ f. inr (behind n ns at x f))
    (found_on (with_step rs n.lsn (step_of n.is)) ns at x e)

pub found : (ns : List Numbered) (at : ℕ) (x : Step) → step_at (steps_of ns) at ≡ Some x → IsFound ns at x
found ns at x e = ⊎_elim (λ none. absurd cc) (λ f. f) (found_on [] ns at x e)
