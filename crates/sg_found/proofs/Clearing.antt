-- What is taken before a walk.
use Rattle.std.proofs.Common.{◌≡◌, ℕ, suc, ◌+◌, ◌<◌, List, [], ◌∷◌, length, Some, Bool, true, false, not, cond, set, slice_get, ap, sym, subst, refl, ◌∙◌, arith, inl, inr}
use Rattle.std.proofs.lemmas.Bool.{cases_eq}
use Rattle.std.proofs.lemmas.List.{length-set}
use Rattle.std.proofs.lemmas.List.Sums.{sum_by-cons}
use Rattle.std.proofs.lemmas.Option.{slice_get_within}
use Rattle.sg_alloc.specs.Flags.{free_of}
use Rattle.sg_space.proofs.InMemory.{slice_get-set_same, slice_get-set_other}

-- the first n are free
pub record AreFree (now : List Bool) (size n : ℕ) : Type 0 where
  pub free : (k : ℕ) → k < n → slice_get now k ≡ Some false
  pub long : length now ≡ size

pub none_free_yet : (now : List Bool) (size : ℕ) → length now ≡ size → AreFree now size 0
none_free_yet now size e = record { free = λ k h. absurd (omega (arith, h)); long = e }

-- one more, which was taken
pub one_more_free : (now new : List Bool) (size n : ℕ) → AreFree now size n → slice_get now n ≡ Some true → new ≡ set now n false → AreFree new size (n + 1)
one_more_free now new size n h taken e = subst (λ (flags : List Bool). AreFree flags size (n + 1)) (sym e) (record {
  free = λ k below. elim (cases_eq k n) [
    | inl same ↦ ap (slice_get (set now n false)) same ∙ slice_get-set_same now n false (slice_get_within now n true taken)
    | inr other ↦ slice_get-set_other now n k false other ∙ h.free k (omega (arith, below, other))
  ];
  long = length-set now n false ∙ h.long;
})

-- or was free
pub one_free : (now : List Bool) (size n : ℕ) → AreFree now size n → slice_get now n ≡ Some false → AreFree now size (n + 1)
one_free now size n h free = record {
  free = λ k below. elim (cases_eq k n) [
    | inl same ↦ ap (slice_get now) same ∙ free
    | inr other ↦ h.free k (omega (arith, below, other))
  ];
  long = h.long;
}

-- where all are free, as many are as there are
pub all_free : (taken : List Bool) → ((k : ℕ) → k < length taken → slice_get taken k ≡ Some false) → free_of taken ≡ length taken
all_free [] h = refl
all_free (x ∷ xs) h =
    let first : x ≡ false = same x (h 0 (omega arith)) in
    let one : cond {A = ℕ} (not x) 1 0 ≡ 1 = ap (λ (b : Bool). cond {A = ℕ} (not b) 1 0) first in
    let rest = all_free xs (λ k b. h (suc k) (omega (arith, b))) in
    let sum : free_of (x ∷ xs) ≡ cond {A = ℕ} (not x) 1 0 + free_of xs = sum_by-cons (λ (b : Bool). cond {A = ℕ} (not b) 1 0) x xs in
    omega (arith, one, rest, sum)
  where
    same : (x : Bool) → Some x ≡ Some false → x ≡ false
    same x e = cc
