-- The first place at which an element passes, and what is held once a touch has been added there.
use Rattle.std.proofs.Common.{◌≡◌, ℕ, zero, suc, ◌+◌, ◌<◌, ◌≤◌, Bool, true, false, cond, not, List, [], ◌∷◌, ◌++◌, map, length, take, drop, get_or, set, Option, Some, None, refl, sym, ap, ◌∙◌, subst, arith, add-one}
use Rattle.std.specs.Prelude.{◌||◌, ◌&&◌}
use Rattle.std.specs.Option.{option_map, option_or, is_some}
use Rattle.std.specs.List.{list_any, list_all, filter}
use Rattle.sg_serial.proofs.Kept.{and_true}
use Rattle.sg_serial.specs.Locks.{Touch, Hold, hold_one, is_pair}
use Rattle.sg_model.specs.Touches.{Resource, same_resource}
use Rattle.sg_locks.specs.Places.{first_place, joined}

-- an element passes exactly where there is a first one
pub any_placed : {A : Type 0} (p : A → Bool) (xs : List A) → is_some (first_place p xs) ≡ list_any p xs
any_placed p [] = refl
any_placed p (x ∷ xs) = go (p x) (first_place p xs) (any_placed p xs)
  where
    go : (b : Bool) (r : Option ℕ) → is_some r ≡ list_any p xs → is_some (cond b (Some 0) (option_map suc r)) ≡ (b || list_any p xs)
    go true r e = refl
    go false None e = e
    go false (Some n) e = e

pub place_within : {A : Type 0} (p : A → Bool) (xs : List A) (i : ℕ) → first_place p xs ≡ Some i → i < length xs
place_within p [] i e = absurd (cc)
place_within p (x ∷ xs) i e = go (p x) (first_place p xs) e (place_within p xs)
  where
    go : (b : Bool) (r : Option ℕ) → cond b (Some 0) (option_map suc r) ≡ Some i → ((j : ℕ) → r ≡ Some j → j < length xs) → i < suc (length xs)
    go true r e h = let q : 0 ≡ i = cc in omega arith
    go false None e h = absurd (cc)
    go false (Some j) e h = let q : suc j ≡ i = cc in let l : j < length xs = h j refl in omega arith

pub none_found : (r : Option ℕ) → option_or r None ≡ r
none_found None = refl
none_found (Some n) = refl

-- where all pass none is left
none_left : {A : Type 0} (p : A → Bool) (xs : List A) → list_all p xs ≡ true → [] ≡ filter (λ x. not (p x)) xs
none_left p [] h = refl
none_left p (x ∷ xs) h = go (p x) h (none_left p xs)
  where
    go : (b : Bool) → (b && list_all p xs) ≡ true → (list_all p xs ≡ true → [] ≡ filter (λ x. not (p x)) xs) → [] ≡ cond (not b) (x ∷ filter (λ x. not (p x)) xs) (filter (λ x. not (p x)) xs)
    go true h rest = rest h
    go false h rest = absurd (cc)

module _ {A B : Type 0} (f : B → A) (p : A → Bool) where
  -- one more element at the end of a front
  pub place_more : (xs : List B) (i : ℕ) (d : B) → i < length xs → first_place p (map f (take (suc i) xs)) ≡ option_or (first_place p (map f (take i xs))) (cond (p (f (get_or xs i d))) (Some i) None)
  place_more [] i d h = absurd (omega arith)
  place_more (x ∷ xs) zero d h = refl
  place_more (x ∷ xs) (suc i) d h = go (p (f x)) (p (f (get_or xs i d))) (first_place p (map f (take i xs))) (first_place p (map f (take (suc i) xs))) (place_more xs i d (omega arith))
    where
      go : (b c : Bool) (r s : Option ℕ) → s ≡ option_or r (cond c (Some i) None) → cond b (Some 0) (option_map suc s) ≡ option_or (cond b (Some 0) (option_map suc r)) (cond c (Some (suc i)) None)
      go true c r s e = refl
      go false true None s e = ap (option_map suc) e
      go false false None s e = ap (option_map suc) e
      go false c (Some n) s e = ap (option_map suc) e

  place_step : (xs : List B) (i : ℕ) (d : B) (found : Option ℕ) → i < length xs
      → option_or (first_place p (map f (take i xs))) (cond (p (f (get_or xs i d))) (Some i) found) ≡ option_or (first_place p (map f (take (i + 1) xs))) found
  place_step xs i d found h =
      go (p (f (get_or xs i d))) (first_place p (map f (take i xs)))
      ∙ (ap (λ r. option_or r found) (sym (place_more xs i d h))
      ∙ ap (λ n. option_or (first_place p (map f (take n xs))) found) (sym (add-one i)))
    where
      go : (c : Bool) (r : Option ℕ) → option_or r (cond c (Some i) found) ≡ option_or (option_or r (cond c (Some i) None)) found
      go true None = refl
      go false None = refl
      go c (Some n) = refl

  -- one more element, from the end on, has been looked at
  pub place_walked : (xs : List B) (i n : ℕ) (x : B) (found new : Option ℕ) → i < length xs → n ≡ i + 1 → x ≡ get_or xs i x → new ≡ cond (p (f x)) (Some i) found
      → option_or (first_place p (map f (take i xs))) new ≡ option_or (first_place p (map f (take n xs))) found
  place_walked xs i n x found new h one is e =
      ap (option_or (first_place p (map f (take i xs)))) (e ∙ ap (λ y. cond (p (f y)) (Some i) found) is)
      ∙ (place_step xs i x found h ∙ ap (λ m. option_or (first_place p (map f (take m xs))) found) (sym one))

  -- one that doesn't pass
  pub place_none : (xs : List B) (i : ℕ) (d : B) → i < length xs → first_place p (map f (take i xs)) ≡ None → p (f (get_or xs i d)) ≡ false → first_place p (map f (take (i + 1) xs)) ≡ None
  place_none xs i d h none off =
      ap (λ n. first_place p (map f (take n xs))) (add-one i)
      ∙ (place_more xs i d h ∙ (ap (λ r. option_or r (cond (p (f (get_or xs i d))) (Some i) None)) none ∙ ap (λ b. cond {A = Option ℕ} b (Some i) None) off))

  -- and the first that does
  pub place_found : (xs : List B) (i : ℕ) (d : B) → i < length xs → first_place p (map f (take i xs)) ≡ None → p (f (get_or xs i d)) ≡ true → first_place p (map f xs) ≡ Some i
  place_found [] i d h none on = absurd (omega arith)
  place_found (x ∷ xs) zero d h none on = ap (λ b. cond b (Some 0) (option_map suc (first_place p (map f xs)))) on
  place_found (x ∷ xs) (suc i) d h none on = go (p (f x)) (first_place p (map f (take i xs))) none (λ e. place_found xs i d (omega arith) e on)
    where
      go : (b : Bool) (r : Option ℕ) → cond b (Some 0) (option_map suc r) ≡ None → (r ≡ None → first_place p (map f xs) ≡ Some i) → cond b (Some 0) (option_map suc (first_place p (map f xs))) ≡ Some (suc i)
      go true r e rest = absurd (cc)
      go false None e rest = ap (option_map suc) (rest refl)
      go false (Some j) e rest = absurd (cc)

  -- what stands before the first that passes stays where those that pass are left out
  pub kept_front : (xs : List B) (n : ℕ) → first_place p (map f xs) ≡ Some n → (n ≤ length (filter (λ x. not (p (f x))) xs)) × (take n (filter (λ x. not (p (f x))) xs) ≡ take n xs)
  kept_front [] n e = absurd (cc)
  kept_front (x ∷ xs) n e = go (p (f x)) (first_place p (map f xs)) e (kept_front xs)
    where
      go : (b : Bool) (r : Option ℕ) → cond b (Some 0) (option_map suc r) ≡ Some n
          → ((m : ℕ) → r ≡ Some m → (m ≤ length (filter (λ x. not (p (f x))) xs)) × (take m (filter (λ x. not (p (f x))) xs) ≡ take m xs))
          → (n ≤ length (cond (not b) (x ∷ filter (λ x. not (p (f x))) xs) (filter (λ x. not (p (f x))) xs))) × (take n (cond (not b) (x ∷ filter (λ x. not (p (f x))) xs) (filter (λ x. not (p (f x))) xs)) ≡ take n (x ∷ xs))
      go true r e rest =
          let q : 0 ≡ n = cc in (omega arith, subst (λ (k : ℕ). take k (filter (λ x. not (p (f x))) xs) ≡ take k (x ∷ xs)) q refl)
      go false None e rest = absurd (cc)
      go false (Some m) e rest =
          let q : suc m ≡ n = cc in let h = rest m refl in let l = h.0 in
          (omega arith, subst (λ (k : ℕ). take k (x ∷ filter (λ x. not (p (f x))) xs) ≡ take k (x ∷ xs)) q (ap (λ ys. x ∷ ys) h.1))

  -- where all pass from the first on, what stands before it is left
  pub front_left : (xs : List B) (n : ℕ) → first_place p (map f xs) ≡ Some n → list_all p (map f (drop n xs)) ≡ true → map f (take n xs) ≡ filter (λ y. not (p y)) (map f xs)
  front_left [] n e all = absurd (cc)
  front_left (x ∷ xs) n e all = go (p (f x)) (first_place p (map f xs)) e (front_left xs)
    where
      go : (b : Bool) (r : Option ℕ) → cond b (Some 0) (option_map suc r) ≡ Some n
          → ((m : ℕ) → r ≡ Some m → list_all p (map f (drop m xs)) ≡ true → map f (take m xs) ≡ filter (λ y. not (p y)) (map f xs))
          → map f (take n (x ∷ xs)) ≡ cond (not b) (f x ∷ filter (λ y. not (p y)) (map f xs)) (filter (λ y. not (p y)) (map f xs))
      go true r e rest =
          let q : 0 ≡ n = cc in
          subst (λ (k : ℕ). list_all p (map f (drop k (x ∷ xs))) ≡ true → map f (take k (x ∷ xs)) ≡ filter (λ y. not (p y)) (map f xs)) q (λ h. none_left p (map f xs) (and_true (p (f x)) (list_all p (map f xs)) h).1) all
      go false None e rest = absurd (cc)
      go false (Some m) e rest =
          let q : suc m ≡ n = cc in
          subst (λ (k : ℕ). list_all p (map f (drop k (x ∷ xs))) ≡ true → map f (take k (x ∷ xs)) ≡ f x ∷ filter (λ y. not (p y)) (map f xs)) q (λ h. ap (λ ys. f x ∷ ys) (rest m refl h)) all

-- where none passes nothing is left out
pub all_kept : {A : Type 0} (p : A → Bool) (xs : List A) → first_place p xs ≡ None → filter (λ x. not (p x)) xs ≡ xs
all_kept p [] e = refl
all_kept p (x ∷ xs) e = go (p x) (first_place p xs) e (all_kept p xs)
  where
    go : (b : Bool) (r : Option ℕ) → cond b (Some 0) (option_map suc r) ≡ None → (r ≡ None → filter (λ x. not (p x)) xs ≡ xs) → cond (not b) (x ∷ filter (λ x. not (p x)) xs) (filter (λ x. not (p x)) xs) ≡ x ∷ xs
    go true r e rest = absurd (cc)
    go false None e rest = ap (λ ys. x ∷ ys) (rest refl)
    go false (Some m) e rest = absurd (cc)

module _ (t : ℕ) (a : Touch Resource) where
  -- where the transaction holds the resource, that hold is joined by the touch
  pub hold_at : (hs : List (Hold Resource)) (i : ℕ) (d : Hold Resource) → first_place (is_pair same_resource t a.what) hs ≡ Some i → set hs i (joined (get_or hs i d) a) ≡ hold_one same_resource t a hs
  hold_at [] i d e = absurd (cc)
  hold_at (h ∷ hs) i d e = go (is_pair same_resource t a.what h) (first_place (is_pair same_resource t a.what) hs) e (λ j. hold_at hs j d)
    where
      go : (b : Bool) (r : Option ℕ) → cond b (Some 0) (option_map suc r) ≡ Some i → ((j : ℕ) → r ≡ Some j → set hs j (joined (get_or hs j d) a) ≡ hold_one same_resource t a hs)
          → set (h ∷ hs) i (joined (get_or (h ∷ hs) i d) a) ≡ cond b (joined h a ∷ hs) (h ∷ hold_one same_resource t a hs)
      go true r e rest = let q : 0 ≡ i = cc in subst (λ (n : ℕ). set (h ∷ hs) n (joined (get_or (h ∷ hs) n d) a) ≡ joined h a ∷ hs) q refl
      go false None e rest = absurd (cc)
      go false (Some j) e rest = let q : suc j ≡ i = cc in subst (λ (n : ℕ). set (h ∷ hs) n (joined (get_or (h ∷ hs) n d) a) ≡ h ∷ hold_one same_resource t a hs) q (ap (λ ks. h ∷ ks) (rest j refl))

  -- and where it doesn't, the new hold comes last
  pub hold_last : (hs : List (Hold Resource)) → first_place (is_pair same_resource t a.what) hs ≡ None → hs ++ (record { transaction = t; touch = a }) ∷ [] ≡ hold_one same_resource t a hs
  hold_last [] e = refl
  hold_last (h ∷ hs) e = go (is_pair same_resource t a.what h) (first_place (is_pair same_resource t a.what) hs) e (hold_last hs)
    where
      go : (b : Bool) (r : Option ℕ) → cond b (Some 0) (option_map suc r) ≡ None → (r ≡ None → hs ++ (record { transaction = t; touch = a }) ∷ [] ≡ hold_one same_resource t a hs)
          → h ∷ (hs ++ (record { transaction = t; touch = a }) ∷ []) ≡ cond b (joined h a ∷ hs) (h ∷ hold_one same_resource t a hs)
      go true r e rest = absurd (cc)
      go false None e rest = ap (λ ks. h ∷ ks) (rest refl)
      go false (Some j) e rest = absurd (cc)
