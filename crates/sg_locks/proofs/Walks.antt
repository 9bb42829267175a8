-- Walks over the elements that pass a test, from the last one on: what stands between two of them adds nothing.
use Rattle.std.proofs.Common.{◌≡◌, ℕ, zero, suc, ◌<◌, ◌≤◌, Bool, true, false, List, [], ◌∷◌, ◌++◌, map, length, take, get_or, Option, Some, None, refl, sym, ap, ◌∙◌, subst, arith}
use Rattle.std.specs.Prelude.{cond}
use Rattle.sg_locks.specs.Places.{later, last_place}

-- the place after one, and the first where there is none
abbrev pub behind : Option ℕ → ℕ
behind None = 0
behind (Some n) = suc n

module _ {A : Type 0} (p : A → Bool) where
  later_some : (b : Bool) (r : Option ℕ) (n : ℕ) → later b r ≡ Some n → (n < suc (behind r))
  later_some b (Some m) n e = let q : suc m ≡ n = cc in omega arith
  later_some true None n e = let q : 0 ≡ n = cc in omega arith
  later_some false None n e = absurd (cc)

  pub last_within : (xs : List A) → behind (last_place p xs) ≤ length xs
  last_within [] = omega arith
  last_within (x ∷ xs) = go (p x) (last_place p xs) (last_within xs)
    where
      go : (b : Bool) (r : Option ℕ) → behind r ≤ length xs → behind (later b r) ≤ suc (length xs)
      go b (Some n) h = omega arith
      go true None h = omega arith
      go false None h = omega arith

  -- the last one passes
  pub last_passes : (xs : List A) (i : ℕ) (d : A) → last_place p xs ≡ Some i → p (get_or xs i d) ≡ true
  last_passes [] i d e = absurd (cc)
  last_passes (x ∷ xs) i d e = go (p x) refl (last_place p xs) e (λ j. last_passes xs j d)
    where
      go : (b : Bool) → p x ≡ b → (r : Option ℕ) → later b r ≡ Some i → ((j : ℕ) → r ≡ Some j → p (get_or xs j d) ≡ true) → p (get_or (x ∷ xs) i d) ≡ true
      go b is (Some n) e rest = let q : suc n ≡ i = cc in subst (λ (k : ℕ). p (get_or (x ∷ xs) k d) ≡ true) q (rest n refl)
      go true is None e rest = let q : 0 ≡ i = cc in subst (λ (k : ℕ). p (get_or (x ∷ xs) k d) ≡ true) q is
      go false is None e rest = absurd (cc)

  -- one more element at the end
  pub last_more : (xs : List A) (x : A) → last_place p (xs ++ x ∷ []) ≡ cond (p x) (Some (length xs)) (last_place p xs)
  last_more [] x = go (p x)
    where
      go : (b : Bool) → later b None ≡ cond b (Some 0) None
      go true = refl
      go false = refl
  last_more (y ∷ xs) x = ap (later (p y)) (last_more xs x) ∙ go (p x) (p y) (last_place p xs)
    where
      go : (b c : Bool) (r : Option ℕ) → later c (cond b (Some (length xs)) r) ≡ cond b (Some (suc (length xs))) (later c r)
      go true c r = refl
      go false c r = refl

-- a test of what f makes of the elements
pub last_map : {A B : Type 0} (f : B → A) (p : A → Bool) (xs : List B) → last_place p (map f xs) ≡ last_place (λ x. p (f x)) xs
last_map f p [] = refl
last_map f p (x ∷ xs) = ap (later (p (f x))) (last_map f p xs)

-- where all pass the last one is the last of all
pub last_of_all : {A : Type 0} (xs : List A) (n : ℕ) → length xs ≡ suc n → last_place (λ x. true) xs ≡ Some n
last_of_all [] n h = absurd (omega arith)
last_of_all (x ∷ []) n h = ap Some (omega arith)
last_of_all (x ∷ y ∷ xs) zero h = absurd (omega arith)
last_of_all (x ∷ y ∷ xs) (suc n) h = ap (later true) (last_of_all (y ∷ xs) n (omega arith))

-- a value F that is made of a list from its end on, where an element that doesn't pass leaves nothing as it is
module _ {A R : Type 0} (F : List A → R) (G : A → R → R) (first : R) (nil : F [] ≡ first) (cons : (x : A) (xs : List A) → F (x ∷ xs) ≡ G x (F xs)) (p : A → Bool) (idle : (x : A) → p x ≡ false → G x first ≡ first) where
  pub none_passes : (xs : List A) → last_place p xs ≡ None → F xs ≡ first
  none_passes [] e = nil
  none_passes (x ∷ xs) e = go (p x) refl (last_place p xs) e (none_passes xs)
    where
      go : (b : Bool) → p x ≡ b → (r : Option ℕ) → later b r ≡ None → (r ≡ None → F xs ≡ first) → F (x ∷ xs) ≡ first
      go b is (Some n) e rest = absurd (cc)
      go true is None e rest = absurd (cc)
      go false is None e rest = cons x xs ∙ (ap (G x) (rest refl) ∙ idle x is)

  pub walk_on : (xs : List A) (i : ℕ) → last_place p xs ≡ Some i → F xs ≡ F (take (suc i) xs)
  walk_on [] i e = absurd (cc)
  walk_on (x ∷ xs) i e = go (p x) (last_place p xs) refl e (λ j. walk_on xs j)
    where
      go : (b : Bool) (r : Option ℕ) → last_place p xs ≡ r → later b r ≡ Some i → ((j : ℕ) → last_place p xs ≡ Some j → F xs ≡ F (take (suc j) xs)) → F (x ∷ xs) ≡ F (x ∷ take i xs)
      go b (Some n) is e rest = let q : suc n ≡ i = cc in cons x xs ∙ (ap (G x) (rest n is ∙ ap (λ k. F (take k xs)) q) ∙ sym (cons x (take i xs)))
      go true None is e rest = let q : 0 ≡ i = cc in cons x xs ∙ (ap (G x) (none_passes xs is ∙ (sym nil ∙ ap (λ k. F (take k xs)) q)) ∙ sym (cons x (take i xs)))
      go false None is e rest = absurd (cc)
