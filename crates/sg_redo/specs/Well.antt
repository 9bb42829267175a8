-- Which bytes may be a page, and the first of several that may not.
use Rattle.std.specs.Prelude.{◌≡◌, ◌⊎◌, ◌<◌, ℕ, List, All, Option, Some, None, length, slice_index_or}
use Rattle.sg_base.specs.Page.{IsSlotted}
use Rattle.sg_frames.specs.Held.{Lent}

-- a page of slots, or zeros
abbrev pub IsWell : List ℕ → Type 0
IsWell p = IsSlotted p ⊎ All (λ x. x ≡ 0) p

-- each of these before this place is one
abbrev pub AreWellBelow : List Lent → ℕ → Type 0
AreWellBelow loans n = (k : ℕ) (d : Lent) → k < n → k < length loans → IsWell (slice_index_or loans k d).bytes

-- this is the first that is none
pub record IsFirstBad (loans : List Lent) (i : ℕ) : Type 0 where
  pub within : i < length loans
  pub bad : (d : Lent) → IsWell (slice_index_or loans i d).bytes → ⊥
  pub before : AreWellBelow loans i

-- THE FIRST that is neither a page of slots nor zeros, where there is one
abbrev pub FindsBad : List Lent → Option ℕ → Type 0
FindsBad loans None = AreWellBelow loans (length loans)
FindsBad loans (Some i) = IsFirstBad loans i
