-- Flags, and what is there by them.
use Rattle.std.proofs.Common.{◌≡◌, ◌⊎◌, ℕ, zero, suc, ◌==◌, List, [], ◌∷◌, Option, Some, None, IsSome, Bool, true, false, sym, ap, subst, ◌∙◌, refl, arith, slice_get, inl, inr}
use Rattle.std.specs.Prelude.{◌&&◌, ◌||◌, if◌then◌else◌, unwrap_or}
use Rattle.std.proofs.lemmas.Bool.{cases_Bool, cases_eq}
use Rattle.std.proofs.lemmas.Bool.Decides.{nat_tests}
use Rattle.sg_action.specs.States.{Change}
use Rattle.sg_actions.specs.Taken.{is_set, is_there, units_there, writes_band}

-- behind a change of bytes of one band, the bands with changed bytes are those of before, and it
pub written_in : {T : Type 0} (b n : ℕ) (ds : List Change) → T → ((n == b) || writes_band ds n) ≡ true → (T × (writes_band ds n ≡ true)) ⊎ (n ≡ b)
written_in {T} b n ds told h = elim (cases_eq n b) as (λ _. (T × (writes_band ds n ≡ true)) ⊎ (n ≡ b)) [
  | inl e ↦ inr e
  | inr ne ↦ inl (told, sym (ap (λ (x : Bool). x || writes_band ds n) (let f : (n == b) ≡ false = grind (arith, nat_tests, ne) in f)) ∙ h)
]

-- a flag, by what is got
pub set_is : (flags : List Bool) (n : ℕ) → is_set flags n ≡ unwrap_or (slice_get flags n) false
set_is [] n = refl
set_is (x ∷ xs) zero = refl
set_is (x ∷ xs) (suc n) = set_is xs n

pub set_by : (flags : List Bool) (n : ℕ) (b : Bool) → slice_get flags n ≡ Some b → is_set flags n ≡ b
set_by flags n b e = set_is flags n ∙ ap (λ (o : Option Bool). unwrap_or o false) e

-- a flag that is set is there
pub get_set : (flags : List Bool) (n : ℕ) → is_set flags n ≡ true → slice_get flags n ≡ Some true
get_set [] n h = absurd (cc)
get_set (true ∷ xs) zero h = refl
get_set (false ∷ xs) zero h = absurd (cc)
get_set (x ∷ xs) (suc n) h = get_set xs n h

pub and_left : (a b : Bool) → (a && b) ≡ true → a ≡ true
and_left true b h = refl
and_left false b h = absurd (cc)

pub and_right : (a b : Bool) → (a && b) ≡ true → b ≡ true
and_right true b h = h
and_right false b h = absurd (cc)

pub and_both : (a b : Bool) → a ≡ true → b ≡ true → (a && b) ≡ true
and_both a b e f = ap (λ (x : Bool). x && b) e ∙ f

none_some : {A : Type 0} (x : A) → None ≡ Some x → ⊥
none_some x e = cc

-- a unit that is there is taken and not freed, and contains what it contains
pub record IsThere {A : Type 0} (taken unfreed : List Bool) (contents : ℕ → Option A) (n : ℕ) (x : A) : Type 0 where
  pub taken_is : is_set taken n ≡ true
  pub unfreed_is : is_set unfreed n ≡ true
  pub both : is_there taken unfreed n ≡ true
  pub is : contents n ≡ Some x

pub there_is : {A : Type 0} (taken unfreed : List Bool) (contents : ℕ → Option A) (n : ℕ) (x : A) → (units_there taken unfreed contents).at n ≡ Some x → IsThere taken unfreed contents n x
there_is taken unfreed contents n x e = elim (cases_Bool (is_there taken unfreed n)) [
  | inl h ↦ record {
    taken_is = and_left (is_set taken n) (is_set unfreed n) h;
    unfreed_is = and_right (is_set taken n) (is_set unfreed n) h;
    both = h;
    is = sym (ap (λ (b : Bool). if b then contents n else None) h) ∙ e;
  }
  | inr h ↦ let none : (units_there taken unfreed contents).at n ≡ None = ap (λ (b : Bool). if b then contents n else None) h in absurd (none_some x (sym none ∙ e))
]

pub at_there : {A : Type 0} (taken unfreed : List Bool) (contents : ℕ → Option A) (n : ℕ) → is_there taken unfreed n ≡ true → (units_there taken unfreed contents).at n ≡ contents n
at_there taken unfreed contents n h = ap (λ (b : Bool). if b then contents n else None) h

pub some_of : {A : Type 0} (o : Option A) → IsSome o → (x : A) × (o ≡ Some x)
some_of None h = absurd (cc)
some_of (Some x) h = (x, refl)

pub some_is : {A : Type 0} {o : Option A} {x : A} → o ≡ Some x → IsSome o
some_is {A} {o} {x} e = subst (λ (p : Option A). IsSome p) (sym e) refl

-- it's there, where the space has something there
pub has_there : {A : Type 0} (taken unfreed : List Bool) (contents : ℕ → Option A) (n : ℕ) → IsSome ((units_there taken unfreed contents).at n) → is_there taken unfreed n ≡ true
has_there taken unfreed contents n h = let s = some_of ((units_there taken unfreed contents).at n) h in (there_is taken unfreed contents n s.0 s.1).both
