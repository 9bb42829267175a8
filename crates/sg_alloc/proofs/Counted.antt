-- The count of free ones, as flags change.
use Rattle.std.proofs.Common.{◌≡◌, ℕ, zero, suc, ◌+◌, ◌<◌, ◌≤◌, List, [], ◌∷◌, length, Some, Bool, true, false, not, cond, set, slice_get, get_or, count_by, ap, refl, ◌∙◌, arith}
use Rattle.std.proofs.lemmas.List.{length-set}
use Rattle.std.proofs.lemmas.List.Sums.{sum_by-set, sum_by-cons, count_by-le-length}
use Rattle.std.proofs.lemmas.Option.{get_or_from_slice_get, slice_get_within}
use Rattle.sg_alloc.specs.Flags.{free_of}

pub free_of-set : (taken : List Bool) (n : ℕ) (a b : Bool) → slice_get taken n ≡ Some a → free_of (set taken n b) + cond (not a) 1 0 ≡ free_of taken + cond (not b) 1 0
free_of-set taken n a b e =
    let is : get_or taken n a ≡ a = get_or_from_slice_get taken n a a e in
    let sum = sum_by-set (λ x. cond (not x) 1 0) taken n b a (slice_get_within taken n a e) in
    rw is at sum

-- one that was free is taken
pub one_less : (taken : List Bool) (n : ℕ) → slice_get taken n ≡ Some false → free_of (set taken n true) + 1 ≡ free_of taken
one_less taken n e = let sum = free_of-set taken n false true e in omega arith

-- one that was taken is free
pub one_more : (taken : List Bool) (n : ℕ) → slice_get taken n ≡ Some true → free_of (set taken n false) ≡ free_of taken + 1
one_more taken n e = let sum = free_of-set taken n true false e in omega arith

pub more_fits : (taken : List Bool) (n : ℕ) → slice_get taken n ≡ Some true → free_of taken + 1 ≤ length taken
more_fits taken n e =
    let most = count_by-le-length not (set taken n false) in
    let long = length-set taken n false in
    let one = one_more taken n e in
    omega arith

-- where all are taken, none is free
pub none_free : (taken : List Bool) → ((k : ℕ) → k < length taken → slice_get taken k ≡ Some true) → free_of taken ≡ 0
none_free [] h = refl
none_free (x ∷ xs) h =
    let first : x ≡ true = same x (h 0 (omega arith)) in
    let one : cond {A = ℕ} (not x) 1 0 ≡ 0 = rw first refl in
    let rest = none_free xs (λ k b. h (suc k) (omega arith)) in
    let sum : free_of (x ∷ xs) ≡ cond {A = ℕ} (not x) 1 0 + free_of xs = sum_by-cons (λ (b : Bool). cond {A = ℕ} (not b) 1 0) x xs in
    omega arith
  where
    same : (x : Bool) → Some x ≡ Some true → x ≡ true
    same x e = cc
