-- What is picked from a list, and the first of it that passes a test.
use Rattle.std.proofs.Common.{◌≡◌, ℕ, suc, ◌+◌, ◌<◌, Bool, true, false, cond, List, [], ◌∷◌, ◌++◌, length, take, drop, set, get_or, Option, Some, None, sym, ap, ◌∙◌, refl}
use Rattle.std.specs.List.{find, filter_map, cons_option}
use Rattle.std.specs.Option.{option_or}
use Rattle.std.proofs.lemmas.List.{take_more, set_split, set-get_or}
use Rattle.std.proofs.lemmas.List.Elements.{filter_map-append}
use Rattle.std.proofs.lemmas.List.Folds.{find-append}

-- a list as what stands before a place, the element there, and what stands behind it
pub split_at : {X : Type 0} (xs : List X) (i : ℕ) (d : X) → i < length xs → xs ≡ take i xs ++ (get_or xs i d ∷ drop (suc i) xs)
split_at xs i d h = sym (set-get_or xs i d) ∙ set_split xs i (get_or xs i d) h

module _ {X Y : Type 0} (h : X → Option Y) where
  pub picked_more : (xs : List X) (i : ℕ) (d : X) → i < length xs → filter_map h (take (i + 1) xs) ≡ filter_map h (take i xs) ++ cons_option (h (get_or xs i d)) []
  picked_more xs i d below = ap (filter_map h) (take_more xs i d below) ∙ filter_map-append h (take i xs) (get_or xs i d ∷ [])

  -- what is picked before a place, there and behind it
  pub picked_at : (xs : List X) (i : ℕ) (d : X) → i < length xs → filter_map h xs ≡ filter_map h (take i xs) ++ cons_option (h (get_or xs i d)) (filter_map h (drop (suc i) xs))
  picked_at xs i d below = ap (filter_map h) (split_at xs i d below) ∙ filter_map-append h (take i xs) (get_or xs i d ∷ drop (suc i) xs)

  -- and with another element there
  pub picked_set : (xs : List X) (i : ℕ) (x : X) → i < length xs → filter_map h (set xs i x) ≡ filter_map h (take i xs) ++ cons_option (h x) (filter_map h (drop (suc i) xs))
  picked_set xs i x below = ap (filter_map h) (set_split xs i x below) ∙ filter_map-append h (take i xs) (x ∷ drop (suc i) xs)

module _ {Y : Type 0} (p : Y → Bool) where
  pub find_behind : (xs ys : List Y) → find p xs ≡ None → find p (xs ++ ys) ≡ find p ys
  find_behind xs ys none = find-append p xs ys ∙ ap (λ (o : Option Y). option_or o (find p ys)) none

  pub find_front : (xs ys : List Y) (y : Y) → find p xs ≡ Some y → find p (xs ++ ys) ≡ Some y
  find_front xs ys y some = find-append p xs ys ∙ ap (λ (o : Option Y). option_or o (find p ys)) some

  pub find_none : (y : Y) (ys : List Y) → p y ≡ false → find p (y ∷ ys) ≡ find p ys
  find_none y ys fails = ap (λ (b : Bool). cond b (Some y) (find p ys)) fails

  pub find_first : (y : Y) (ys : List Y) → p y ≡ true → find p (y ∷ ys) ≡ Some y
  find_first y ys passes = ap (λ (b : Bool). cond b (Some y) (find p ys)) passes

  -- what is found passes
  pub found_passes : (xs : List Y) (y : Y) → find p xs ≡ Some y → p y ≡ true
  found_passes [] y h = absurd (cc)
  found_passes (x ∷ xs) y h = by (p x) refl h (found_passes xs y)
    where
      by : (b : Bool) → p x ≡ b → cond b (Some x) (find p xs) ≡ Some y → (find p xs ≡ Some y → p y ≡ true) → p y ≡ true
      by true e k rest = let same : x ≡ y = cc in ap p (sym same) ∙ e
      by false e k rest = rest k
