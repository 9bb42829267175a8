-- The first flags of a list set, one after another, and what is shown of a new list.
use Rattle.std.proofs.Common.{◌≡◌, ◌≢◌, ℕ, zero, suc, ◌+◌, ◌<◌, ◌≤◌, List, [], ◌∷◌, length, Option, Some, None, Bool, true, false, not, sym, ap, ◌∙◌, refl, arith, set, slice_get, get_or, replicate, cond, All, subst, inl, inr}
use Rattle.std.proofs.lemmas.Bool.{cases_eq}
use Rattle.std.proofs.lemmas.List.{length-set}
use Rattle.std.proofs.lemmas.List.Sums.{sum_by-cons}
use Rattle.std.proofs.lemmas.Option.{get_or_from_slice_get, slice_get_within}
use Rattle.sg_alloc.specs.Flags.{free_of}
use Rattle.sg_alloc.proofs.Counted.{one_less}
use Rattle.sg_space.specs.Flagged.{shown, units_of}
use Rattle.sg_space.proofs.InMemory.{slice_get-set_same, slice_get-set_other}

-- the first n are taken since, and no other
pub record AreTaken (old now : List Bool) (n : ℕ) : Type 0 where
  pub taken : (k : ℕ) → k < n → slice_get now k ≡ Some true
  pub others : (k : ℕ) → n ≤ k → slice_get now k ≡ slice_get old k
  pub size : length now ≡ length old
  pub free : free_of now + n ≡ free_of old

pub none_taken : (old : List Bool) → AreTaken old old 0
none_taken old = record { taken = λ k h. absurd (omega arith); others = λ k h. refl; size = refl; free = omega arith }

pub one_more_taken : (old now new : List Bool) (n : ℕ) → AreTaken old now n → slice_get old n ≡ Some false → new ≡ set now n true → AreTaken old new (n + 1)
one_more_taken old now new n h free e = subst (λ (flags : List Bool). AreTaken old flags (n + 1)) (sym e) (record {
  taken = λ k below. elim (cases_eq k n) [
    | inl same ↦ ap (slice_get (set now n true)) same ∙ slice_get-set_same now n true within
    | inr other ↦ slice_get-set_other now n k true other ∙ h.taken k (omega arith)
  ];
  others = λ k above. slice_get-set_other now n k true (λ same. absurd (omega arith)) ∙ h.others k (omega arith);
  size = length-set now n true ∙ h.size;
  free = let one = one_less now n at in let all = h.free in omega arith;
})
  where
    at : slice_get now n ≡ Some false
    at = h.others n (omega arith) ∙ free

    within : n < length now
    within = slice_get_within now n false at

-- a new list of flags
pub free_at : (n k : ℕ) → k < n → slice_get (replicate n false) k ≡ Some false
free_at zero k h = absurd (omega arith)
free_at (suc n) zero h = refl
free_at (suc n) (suc k) h = free_at n k (omega arith)

pub not_taken_at : (n k : ℕ) → slice_get (replicate n false) k ≡ Some true → ⊥
not_taken_at zero k h = cc
not_taken_at (suc n) zero h = cc
not_taken_at (suc n) (suc k) h = not_taken_at n k h

pub all_free : (n : ℕ) → free_of (replicate n false) ≡ n
all_free zero = refl
all_free (suc n) =
    let rest = all_free n in
    let sum : free_of (false ∷ replicate n false) ≡ 1 + free_of (replicate n false) = sum_by-cons (λ (b : Bool). cond {A = ℕ} (not b) 1 0) false (replicate n false) in
    sum ∙ omega arith

pub length-free : (n : ℕ) → length (replicate n false) ≡ n
length-free zero = refl
length-free (suc n) = let rest = length-free n in omega arith

-- one whose flag isn't set isn't shown
pub none_shown : {X A : Type 0} (f : X → A) (taken : List Bool) (xs : List X) (n : ℕ) → (slice_get taken n ≡ Some true → ⊥) → (units_of f taken xs).at n ≡ None
none_shown {X} {A} f taken xs n h = by (slice_get taken n) h
  where
    by : (o : Option Bool) → (o ≡ Some true → ⊥) → shown f o (slice_get xs n) ≡ None
    by None h = refl
    by (Some true) h = absurd (h refl)
    by (Some false) h = refl

-- what holds of each element holds of one of them
pub at_one : {X : Type 0} (P : X → Type 0) (xs : List X) (n : ℕ) (x : X) → All P xs → slice_get xs n ≡ Some x → P x
at_one P xs n x all e = subst P (get_or_from_slice_get xs n x x e) (all n x (slice_get_within xs n x e))

pub one_there : {X : Type 0} (xs : List X) (n : ℕ) → n < length xs → (x : X) × (slice_get xs n ≡ Some x)
one_there [] n h = absurd (omega arith)
one_there (x ∷ xs) zero h = (x, refl)
one_there (x ∷ xs) (suc n) h = one_there xs n (omega arith)
