-- Maps in which all is set.
use Rattle.std.proofs.Common.{◌≡◌, ◌<◌, ◌^◌, ◌+◌, ℕ, Bool, true, false, not, cond, List, [], ◌∷◌, suc, zero, length, refl, sym, ◌∙◌, arith}
use Rattle.std.proofs.lemmas.List.Sums.{sum_by-cons}
use Rattle.sg_alloc.specs.Flags.{free_of}
use Rattle.sg_actions.specs.Taken.{is_set, AreFlags}

-- where none is free each is set
all_set : (xs : List Bool) (n : ℕ) → free_of xs ≡ 0 → n < length xs → is_set xs n ≡ true
all_set [] n none below = absurd (omega (arith, below))
all_set (true ∷ xs) zero none below = refl
all_set (false ∷ xs) zero none below = absurd (let e = sum_by-cons (λ (b : Bool). cond {A = ℕ} (not b) 1 0) false xs in omega (arith, e, none))
all_set (x ∷ xs) (suc n) none below =
    let e = sum_by-cons (λ (b : Bool). cond {A = ℕ} (not b) 1 0) x xs in
    all_set xs n (omega (arith, e, none)) (omega (arith, below))

no : true ≡ false → ⊥
no e = cc

-- nothing is freed where all is set
pub flags : (taken unfreed : List Bool) (n : ℕ) → length taken ≡ n → length unfreed ≡ n → n < 2 ^ 32 → free_of unfreed ≡ 0 → AreFlags taken unfreed
flags taken unfreed n long same few none = record {
  long = same ∙ sym long;
  inside = λ k below clear. absurd (no (sym (all_set unfreed k none (omega (arith, below, long, same))) ∙ clear));
  few = omega (arith, few, long);
}
