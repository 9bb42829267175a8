-- Numbers of which no two are one are no more than the numbers below their bound.
use Rattle.std.proofs.Common.{◌≡◌, ◌≢◌, ℕ, suc, ◌<◌, ◌≤◌, Bool, true, false, List, [], ◌∷◌, length, Some, None, slice_get, sym, ap, refl, arith, inl, inr, eqb}
use Rattle.std.proofs.lemmas.Bool.{cases_lt}
use Rattle.std.proofs.lemmas.Bool.Decides.{nat_tests}
use Rattle.std.proofs.lemmas.Map.Steps.{length-le_from_distinct_below}
use Rattle.std.specs.List.{IsDistinct, AllByRecursion, list_any}
use Rattle.sg_space.specs.Units.{Units, IsExact}

-- no two elements are one
abbrev pub AreApart : List ℕ → Type 0
AreApart xs = (i j x : ℕ) → slice_get xs i ≡ Some x → slice_get xs j ≡ Some x → i ≡ j

others : (x : ℕ) (xs : List ℕ) → ((j : ℕ) → slice_get xs j ≡ Some x → ⊥) → AllByRecursion (λ y. eqb x y ≡ false) xs
others x [] absent = tt
others x (y ∷ xs) absent =
    let ne : x ≢ y = λ e. absent 0 (ap Some (sym e)) in
    let test : eqb x y ≡ false = grind (arith, nat_tests, ne) in
    (test, others x xs (λ j. absent (suc j)))

distinct : (xs : List ℕ) → AreApart xs → IsDistinct eqb xs
unfolding IsDistinct
distinct [] a = tt
distinct (x ∷ xs) a = (others x xs (λ j e. absurd (let same : 0 ≡ suc j = a 0 (suc j) x refl e in omega arith)), distinct xs (λ i j y e f. let same : suc i ≡ suc j = a (suc i) (suc j) y e f in omega arith))

found_by : (q x : ℕ) (xs : List ℕ) (b : Bool) → eqb q x ≡ b → (list_any (eqb q) xs ≡ true → (i : ℕ) × (slice_get xs i ≡ Some q)) → list_any (eqb q) (x ∷ xs) ≡ true → (i : ℕ) × (slice_get (x ∷ xs) i ≡ Some q)
found_by q x xs true t rest h = let same : q ≡ x = grind (arith, nat_tests, t) in (0, ap Some (sym same))
found_by q x xs false t rest h =
    let later : list_any (eqb q) xs ≡ true = rw t at h in
    let f = rest later in
    (suc f.0, f.1)

found : (q : ℕ) (xs : List ℕ) → list_any (eqb q) xs ≡ true → (i : ℕ) × (slice_get xs i ≡ Some q)
found q [] e = absurd (cc)
found q (x ∷ xs) e = found_by q x xs (eqb q x) refl (found q xs) e

pub few_elements : (xs : List ℕ) (n : ℕ) → AreApart xs → ((i x : ℕ) → slice_get xs i ≡ Some x → x < n) → length xs ≤ n
few_elements xs n apart below = length-le_from_distinct_below xs n (distinct xs apart) (λ q e. let f = found q xs e in below f.0 q f.1)

-- so what a structure has of the units of a space is no more than there are
pub few_units : {A : Type 0} {units : Units A} (xs : List ℕ) → IsExact units → AreApart xs → ((i x : ℕ) → slice_get xs i ≡ Some x → units.at x ≡ None → ⊥) → length xs ≤ units.count
few_units {A} {units} xs exact apart there = few_elements xs units.count apart (λ i x e. elim (cases_lt x units.count) as (λ _. x < units.count) [
  | inl below ↦ below
  | inr past ↦ absurd (there i x e (exact.past x past))
])
