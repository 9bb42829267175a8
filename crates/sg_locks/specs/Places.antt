-- Where a hold stands in a table, and who is in the way of a touch.
use Rattle.std.specs.Prelude.{ℕ, suc, Bool, true, false, cond, not, ◌==◌, ◌||◌, ◌&&◌, List, [], ◌∷◌, Option, Some, None}
use Rattle.std.specs.Option.{option_map}
use Rattle.sg_serial.specs.Locks.{Touch, Hold, lesser}
use Rattle.sg_model.specs.Touches.{Resource, conflict}

-- the place of the first element that passes
abbrev pub first_place : {A : Type 0} → (A → Bool) → List A → Option ℕ
first_place p [] = None
first_place p (x ∷ xs) = cond (p x) (Some 0) (option_map suc (first_place p xs))

-- the hold with one more touch of its resource
abbrev pub joined : Hold Resource → Touch Resource → Hold Resource
joined h a = record { transaction = h.transaction; touch = record { what = h.touch.what; write = h.touch.write || a.write } }

-- another transaction holds this, in conflict with the touch
abbrev pub blocks : ℕ → Touch Resource → Hold Resource → Bool
blocks t a h = not (h.transaction == t) && conflict h.touch a

-- the lesser of two numbers, of which either may not be there
abbrev pub lesser_of : Option ℕ → Option ℕ → Option ℕ
lesser_of None other = other
lesser_of (Some n) other = lesser n other

-- the least transaction with a hold that passes
abbrev pub least_of : (Hold Resource → Bool) → List (Hold Resource) → Option ℕ
least_of p [] = None
least_of p (h ∷ hs) = cond (p h) (lesser h.transaction (least_of p hs)) (least_of p hs)

abbrev pub later : Bool → Option ℕ → Option ℕ
later here (Some n) = Some (suc n)
later true None = Some 0
later false None = None

-- the place of the last element that passes
abbrev pub last_place : {A : Type 0} → (A → Bool) → List A → Option ℕ
last_place p [] = None
last_place p (x ∷ xs) = later (p x) (last_place p xs)
