-- One of the things in memory that may have been changed.
use Rattle.std.proofs.Common.{◌≡◌, ℕ, List, Option, Some, None, IsSome, Bool, true, false, sym, ap, ◌∙◌, subst, refl, set, slice_get, inl, inr}
use Rattle.std.specs.Bool.{OnTrue, OnFalse}
use Rattle.std.proofs.lemmas.Bool.{cases_eq}
use Rattle.std.proofs.lemmas.List.{length-set}
use Rattle.std.proofs.lemmas.Option.{slice_get_within}
use Rattle.sg_alloc.specs.Flags.{free_of}
use Rattle.sg_space.specs.Units.{IsChanged}
use Rattle.sg_space.specs.Flagged.{shown, units_of}
use Rattle.sg_space.proofs.InMemory.{slice_get-set_same, slice_get-set_other, changed_one}

-- what contains the same shows the same
pub same_shown : {X A : Type 0} (f : X → A) (taken : List Bool) (xs : List X) (n : ℕ) (x y : X) → slice_get xs n ≡ Some x → f y ≡ f x → units_of f taken (set xs n y) ≡ units_of f taken xs
same_shown {X} {A} f taken xs n x y at e = λ i. record { at = λ m. each m i; free = free_of taken; count = length-set xs n y i }
  where
    by_flag : (b : Option Bool) → shown f b (Some y) ≡ shown f b (Some x)
    by_flag None = refl
    by_flag (Some false) = refl
    by_flag (Some true) = ap Some e

    here : shown f (slice_get taken n) (slice_get (set xs n y) n) ≡ shown f (slice_get taken n) (slice_get xs n)
    here =
        ap (shown f (slice_get taken n)) (slice_get-set_same xs n y (slice_get_within xs n x at))
        ∙ (by_flag (slice_get taken n) ∙ ap (shown f (slice_get taken n)) (sym at))

    each : (m : ℕ) → shown f (slice_get taken m) (slice_get (set xs n y) m) ≡ shown f (slice_get taken m) (slice_get xs m)
    each m = elim (cases_eq m n) as (λ _. shown f (slice_get taken m) (slice_get (set xs n y) m) ≡ shown f (slice_get taken m) (slice_get xs m)) [
      | inl is ↦ subst (λ (k : ℕ). shown f (slice_get taken k) (slice_get (set xs n y) k) ≡ shown f (slice_get taken k) (slice_get xs k)) (sym is) here
      | inr ne ↦ ap (shown f (slice_get taken m)) (slice_get-set_other xs n m y ne)
    ]

-- where it was changed it is, and where not all are as they were
pub tried_did : {X A : Type 0} (f : X → A) (taken : List Bool) (xs : List X) (n : ℕ) (x y : X) (change : A → Option A) (b : Bool) → IsSome ((units_of f taken xs).at n) → slice_get xs n ≡ Some x
    → OnTrue b (change (f x) ≡ Some (f y)) → OnTrue b (IsChanged (units_of f taken xs) (units_of f taken (set xs n y)) n change)
tried_did f taken xs n x y change true some at made = changed_one f taken xs n x y change some at made
tried_did f taken xs n x y change false some at made = tt

pub tried_same : {X A : Type 0} (f : X → A) (taken : List Bool) (xs : List X) (n : ℕ) (x y : X) (b : Bool) → slice_get xs n ≡ Some x → OnFalse b (f y ≡ f x) → OnFalse b (units_of f taken (set xs n y) ≡ units_of f taken xs)
tried_same f taken xs n x y true at e = tt
tried_same f taken xs n x y false at e = same_shown f taken xs n x y at e

pub on_false_then : (b : Bool) {P Q : Type 0} → (P → Q) → OnFalse b P → OnFalse b Q
on_false_then true f h = tt
on_false_then false f h = f h
