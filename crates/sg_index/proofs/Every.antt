-- What holds of each element, and what stands in order.
use Rattle.std.proofs.Common.{◌≡◌, ℕ, zero, suc, ◌<◌, List, [], ◌∷◌, ◌++◌, length, map, take, drop, refl, ap, arith}
use Rattle.std.specs.List.{AllByRecursion}

abbrev pub Every : {X : Type 0} → (X → Type 0) → List X → Type 0
Every P xs = AllByRecursion P xs

module _ {X : Type 0} (P : X → Type 0) where
  pub every_join : (xs ys : List X) → Every P xs → Every P ys → Every P (xs ++ ys)
  every_join [] ys a b = b
  every_join (x ∷ xs) ys a b = (a.0, every_join xs ys a.1 b)

  pub every_left : (xs ys : List X) → Every P (xs ++ ys) → Every P xs
  every_left [] ys a = tt
  every_left (x ∷ xs) ys a = (a.0, every_left xs ys a.1)

  pub every_right : (xs ys : List X) → Every P (xs ++ ys) → Every P ys
  every_right [] ys a = a
  every_right (x ∷ xs) ys a = every_right xs ys a.1

  pub every_weaker : (Q : X → Type 0) → ((x : X) → P x → Q x) → (xs : List X) → Every P xs → Every Q xs
  every_weaker Q f [] a = tt
  every_weaker Q f (x ∷ xs) a = (f x a.0, every_weaker Q f xs a.1)

  pub every_map : {Y : Type 0} (f : Y → X) (ys : List Y) → Every (λ y. P (f y)) ys → Every P (map f ys)
  every_map f [] a = tt
  every_map f (y ∷ ys) a = (a.0, every_map f ys a.1)

  pub every_take : (n : ℕ) (xs : List X) → Every P xs → Every P (take n xs)
  every_take zero xs a = tt
  every_take (suc n) [] a = tt
  every_take (suc n) (x ∷ xs) a = (a.0, every_take n xs a.1)

  pub every_drop : (n : ℕ) (xs : List X) → Every P xs → Every P (drop n xs)
  every_drop zero xs a = a
  every_drop (suc n) [] a = tt
  every_drop (suc n) (x ∷ xs) a = every_drop n xs a.1

-- both at once
pub every_both : {X : Type 0} (P Q : X → Type 0) (xs : List X) → Every P xs → Every Q xs → Every (λ x. P x × Q x) xs
every_both P Q [] a b = tt
every_both P Q (x ∷ xs) a b = ((a.0, b.0), every_both P Q xs a.1 b.1)

-- a list as what stands before a place, the element there, and what stands behind it
pub record At {X : Type 0} (xs : List X) (n : ℕ) : Type 0 where
  pub left : List X
  pub here : X
  pub right : List X
  pub parts : xs ≡ left ++ here ∷ right
  pub place : length left ≡ n

pub at_place : {X : Type 0} (xs : List X) (n : ℕ) → n < length xs → At xs n
at_place [] n h = absurd (omega (arith, h))
at_place (x ∷ xs) zero h = record { left = []; here = x; right = xs; parts = refl; place = refl }
at_place {X = X} (x ∷ xs) (suc n) h =
    let a = at_place xs n (omega (arith, h)) in
    record { left = x ∷ a.left; here = a.here; right = a.right; parts = ap (λ (ys : List X). x ∷ ys) a.parts; place = ap suc a.place }
