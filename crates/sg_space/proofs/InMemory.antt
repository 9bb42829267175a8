-- Things in memory with their flags: what is shown of them as one is taken, freed or changed.
use Rattle.std.proofs.Common.{◌≡◌, ◌≢◌, ℕ, zero, suc, ◌+◌, ◌<◌, ◌≤◌, List, [], ◌∷◌, length, Option, Some, None, IsSome, is_none, option_map, Bool, true, false, not, sym, ap, ◌∙◌, refl, arith, set, slice_get, cond, count_by, subst}
use Rattle.std.proofs.lemmas.List.{length-set}
use Rattle.std.proofs.lemmas.Option.{slice_get_within}
use Rattle.sg_alloc.proofs.Counted.{one_less, one_more}
use Rattle.sg_space.specs.Units.{Units, IsChanged, IsTaken, IsFreed}
use Rattle.sg_space.specs.Flagged.{shown, units_of}

pub slice_get-set_same : {X : Type 0} (xs : List X) (i : ℕ) (x : X) → i < length xs → slice_get (set xs i x) i ≡ Some x
slice_get-set_same [] i x h = absurd (omega arith)
slice_get-set_same (y ∷ ys) zero x h = refl
slice_get-set_same (y ∷ ys) (suc i) x h = slice_get-set_same ys i x (omega arith)

pub slice_get-set_other : {X : Type 0} (xs : List X) (i j : ℕ) (x : X) → j ≢ i → slice_get (set xs i x) j ≡ slice_get xs j
slice_get-set_other [] i j x h = refl
slice_get-set_other (y ∷ ys) zero zero x h = absurd (h refl)
slice_get-set_other (y ∷ ys) zero (suc j) x h = refl
slice_get-set_other (y ∷ ys) (suc i) zero x h = refl
slice_get-set_other (y ∷ ys) (suc i) (suc j) x h = slice_get-set_other ys i j x (λ e. h (ap suc e))

-- one that is shown is taken
pub record IsThere {X : Type 0} (taken : List Bool) (xs : List X) (n : ℕ) : Type 0 where
  pub item : X
  pub at : slice_get xs n ≡ Some item
  pub flag : slice_get taken n ≡ Some true

there : {X A : Type 0} (f : X → A) (b : Option Bool) (x : Option X) → IsSome (shown f b x) → (y : X) × (x ≡ Some y) × (b ≡ Some true)
there f None x h = cc
there f (Some false) x h = cc
there f (Some true) None h = cc
there f (Some true) (Some y) h = (y, refl, refl)

pub is_there : {X A : Type 0} (f : X → A) (taken : List Bool) (xs : List X) (n : ℕ) → IsSome ((units_of f taken xs).at n) → IsThere taken xs n
is_there f taken xs n h =
    let t = there f (slice_get taken n) (slice_get xs n) h in
    record { item = t.0; at = t.1; flag = t.2 }

-- what is shown of one that is taken
pub shown_at : {X A : Type 0} (f : X → A) (taken : List Bool) (xs : List X) (n : ℕ) (x : X) → slice_get taken n ≡ Some true → slice_get xs n ≡ Some x → (units_of f taken xs).at n ≡ Some (f x)
shown_at f taken xs n x flag at = ap (λ (b : Option Bool). shown f b (slice_get xs n)) flag ∙ ap (λ o. shown f (Some true) o) at

pub none_at : {X A : Type 0} (f : X → A) (taken : List Bool) (xs : List X) (n : ℕ) → slice_get taken n ≡ Some false → (units_of f taken xs).at n ≡ None
none_at f taken xs n flag = ap (λ (b : Option Bool). shown f b (slice_get xs n)) flag

-- one that was free is taken
pub taken_one : {X A : Type 0} (f : X → A) (taken new : List Bool) (xs : List X) (n : ℕ) (y : X) (P : A → Type 0) → new ≡ set taken n true → slice_get taken n ≡ Some false → length taken ≡ length xs → P (f y) → IsTaken (units_of f taken xs) (units_of f new (set xs n y)) n P
taken_one {X} {A} f taken new xs n y P e free long has = subst (λ (flags : List Bool). IsTaken (units_of f taken xs) (units_of f flags (set xs n y)) n P) (sym e) is
  where
    below : n < length taken
    below = slice_get_within taken n false free

    is : IsTaken (units_of f taken xs) (units_of f (set taken n true) (set xs n y)) n P
    is = record {
      was_free = none_at f taken xs n free;
      fresh = record { what = f y; is = shown_at f (set taken n true) (set xs n y) n y (slice_get-set_same taken n true below) (slice_get-set_same xs n y (omega (arith, below, long))); has = has };
      others = λ m ne. ap (λ (b : Option Bool). shown f b (slice_get (set xs n y) m)) (slice_get-set_other taken n m true ne) ∙ ap (λ o. shown f (slice_get taken m) o) (slice_get-set_other xs n m y ne);
      free = one_less taken n free;
      count = length-set xs n y;
    }

-- one that was taken is free
pub freed_one : {X A : Type 0} (f : X → A) (taken new : List Bool) (xs : List X) (n : ℕ) → new ≡ set taken n false → slice_get taken n ≡ Some true → IsFreed (units_of f taken xs) (units_of f new xs) n
freed_one {X} {A} f taken new xs n e flag = subst (λ (flags : List Bool). IsFreed (units_of f taken xs) (units_of f flags xs) n) (sym e) (record {
  gone = none_at f (set taken n false) xs n (slice_get-set_same taken n false (slice_get_within taken n true flag));
  others = λ m ne. ap (λ (b : Option Bool). shown f b (slice_get xs m)) (slice_get-set_other taken n m false ne);
  free = one_more taken n flag;
  count = refl;
})

-- none of the others has changed
pub same_units : {X A : Type 0} (f : X → A) (taken new : List Bool) (xs : List X) → new ≡ taken → units_of f new xs ≡ units_of f taken xs
same_units f taken new xs e = ap (λ (flags : List Bool). units_of f flags xs) e

-- one that is taken is changed
pub changed_one : {X A : Type 0} (f : X → A) (taken : List Bool) (xs : List X) (n : ℕ) (x y : X) (change : A → Option A) → IsSome ((units_of f taken xs).at n) → slice_get xs n ≡ Some x → change (f x) ≡ Some (f y) → IsChanged (units_of f taken xs) (units_of f taken (set xs n y)) n change
changed_one {X} {A} f taken xs n x y change some at made =
    let t = is_there f taken xs n some in
    let below : n < length xs = slice_get_within xs n x at in
    let before : (units_of f taken xs).at n ≡ Some (f x) = shown_at f taken xs n x t.flag at in
    record {
      here = λ a e. shown_at f taken (set xs n y) n y t.flag (slice_get-set_same xs n y below) ∙ (sym made ∙ ap change (same (f x) a (sym before ∙ e)));
      others = λ m ne. ap (λ o. shown f (slice_get taken m) o) (slice_get-set_other xs n m y ne);
      free = refl;
      count = length-set xs n y;
    }
  where
    same : (a b : A) → Some a ≡ Some b → a ≡ b
    same a b e = cc
