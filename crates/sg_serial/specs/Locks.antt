-- Touches of resources, and what transactions hold.
use Rattle.std.specs.Prelude.{◌≡◌, ℕ, Bool, false, cond, not, ◌||◌, ◌&&◌, ◌==◌, min, List, [], ◌∷◌, Option, Some, None}
use Rattle.std.specs.List.{filter, list_any}

-- a touch of a resource, which may write it
pub record Touch (Resource : Type 0) : Type 0 where
  pub what : Resource
  pub write : Bool

-- a touch that a transaction holds
pub record Hold (Resource : Type 0) : Type 0 where
  pub transaction : ℕ
  pub touch : Touch Resource

module _ {Resource Cell : Type 0} (covers : Resource → Cell → Bool) where
  abbrev pub reads : Touch Resource → Cell → Bool
  reads a c = covers a.what c

  abbrev pub writes : Touch Resource → Cell → Bool
  writes a c = a.write && covers a.what c

-- what a transaction holds
abbrev pub held_of : {Resource : Type 0} → List (Hold Resource) → ℕ → List (Touch Resource)
held_of [] t = []
held_of (h ∷ hs) t = cond (h.transaction == t) (h.touch ∷ held_of hs t) (held_of hs t)

-- all but what a transaction holds
abbrev pub released : {Resource : Type 0} → ℕ → List (Hold Resource) → List (Hold Resource)
released t hs = filter (λ h. not (h.transaction == t)) hs

module _ {Resource : Type 0} (same : Resource → Resource → Bool) where
  -- A transaction holds one more touch. Each pair of a transaction and a resource stands once, and is written if one of its touches is
  abbrev pub hold_one : ℕ → Touch Resource → List (Hold Resource) → List (Hold Resource)
  hold_one t a [] = (record { transaction = t; touch = a }) ∷ []
  hold_one t a (h ∷ hs) =
      cond ((h.transaction == t) && same h.touch.what a.what)
      ((record { transaction = h.transaction; touch = record { what = h.touch.what; write = h.touch.write || a.write } }) ∷ hs)
      (h ∷ hold_one t a hs)

  abbrev pub hold_all : ℕ → List (Touch Resource) → List (Hold Resource) → List (Hold Resource)
  hold_all t [] hs = hs
  hold_all t (a ∷ more) hs = hold_all t more (hold_one t a hs)

-- the lesser of two numbers, where there is one
abbrev pub lesser : ℕ → Option ℕ → Option ℕ
lesser n None = Some n
lesser n (Some m) = Some (min n m)

module _ {Resource : Type 0} (conflict : Touch Resource → Touch Resource → Bool) where
  -- one of these touches is in conflict with one of those
  abbrev pub any_conflict : List (Touch Resource) → List (Touch Resource) → Bool
  any_conflict xs ys = list_any (λ x. list_any (λ y. conflict x y) ys) xs

  -- the touch that another transaction holds is in conflict
  abbrev pub is_in_way : ℕ → List (Touch Resource) → Hold Resource → Bool
  is_in_way t wanted h = not (h.transaction == t) && list_any (λ a. conflict h.touch a) wanted

  -- the other transaction with the least number that holds a touch in conflict
  abbrev pub first_holder : ℕ → List (Touch Resource) → List (Hold Resource) → Option ℕ
  first_holder t wanted [] = None
  first_holder t wanted (h ∷ hs) = cond (is_in_way t wanted h) (lesser h.transaction (first_holder t wanted hs)) (first_holder t wanted hs)

module _ {Resource : Type 0} (same : Resource → Resource → Bool) where
  -- whether this is the transaction's hold of the resource
  abbrev pub is_pair : ℕ → Resource → Hold Resource → Bool
  is_pair t r h = (h.transaction == t) && same h.touch.what r

  -- each pair of a transaction and a resource stands once
  abbrev pub AreOnce : List (Hold Resource) → Type 0
  AreOnce [] = Unit {0}
  AreOnce (h ∷ hs) = (list_any (is_pair h.transaction h.touch.what) hs ≡ false) × AreOnce hs
