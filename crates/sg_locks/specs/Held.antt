-- What a transaction holds already, and that nobody else is in the way of it.
use Rattle.std.specs.Prelude.{◌≡◌, ℕ, Bool, true, false, cond, not, ◌||◌, List, [], ◌∷◌}
use Rattle.std.specs.List.{list_any}
use mathlib.Core.Bool.{Bool-set}
use mathlib.Core.HLevel.{×_prop, Unit-prop}
use Rattle.sg_serial.specs.Locks.{Touch, Hold, is_pair, AreOnce}
use Rattle.sg_model.specs.Touches.{Resource, same_resource}
use Rattle.sg_locks.specs.Places.{blocks}

-- no other transaction holds anything in conflict with the touch
abbrev pub IsClear : ℕ → Touch Resource → List (Hold Resource) → Type 0
IsClear t a hs = list_any (blocks t a) hs ≡ false

-- the transaction holds what the touch is of, and to write it where the touch does
abbrev pub is_held : ℕ → Touch Resource → List (Hold Resource) → Bool
is_held t a [] = false
is_held t a (h ∷ hs) = cond (is_pair same_resource t a.what h) (h.touch.write || not a.write) (is_held t a hs)

-- the holds of different transactions aren't in conflict: nobody else is in the way of what a transaction holds
abbrev pub AreCompatible : List (Hold Resource) → Type 0
AreCompatible hs = (t : ℕ) (a : Touch Resource) → is_held t a hs ≡ true → IsClear t a hs

-- that each pair is held once is a fact, with no more to it
pub once_prop : (hs : List (Hold Resource)) → IsProp (AreOnce same_resource hs)
once_prop [] = Unit-prop
once_prop (h ∷ hs) = ×_prop (Bool-set _ _) (once_prop hs)
