-- Which places of a page belong to a cell already.
use Rattle.std.specs.Prelude.{ℕ, ◌<◌, ◌≤◌, List, ◌⊎◌}
use Rattle.sg_bits.specs.Bits.{IsSet}
use Rattle.sg_base.specs.Page.{HasCell, IsInCell}

-- a row of bits has one for each place
abbrev pub IsTaken : List ℕ → ℕ → Type 0
IsTaken taken place = IsSet taken place

-- the places from one up to another were free, and these alone have been taken
pub record Takes (old new : List ℕ) (from to : ℕ) : Type 0 where
  pub free : (place : ℕ) → from ≤ place → place < to → ¬ IsTaken old place
  pub here : (place : ℕ) → from ≤ place → place < to → IsTaken new place
  pub before : (place : ℕ) → IsTaken old place → IsTaken new place
  pub only : (place : ℕ) → IsTaken new place → IsTaken old place ⊎ ((from ≤ place) × (place < to))

-- one of these places was taken
abbrev pub IsMet : List ℕ → ℕ → ℕ → Type 0
IsMet taken from to = (place : ℕ) × (from ≤ place) × (place < to) × IsTaken taken place

-- the places of the cells of the first n slots are taken, and no others
pub record AreTaken (page : List ℕ) (n : ℕ) (taken : List ℕ) : Type 0 where
  pub cells : (slot place : ℕ) → HasCell page n slot → IsInCell page slot place → IsTaken taken place
  pub only : (place : ℕ) → IsTaken taken place → (slot : ℕ) × HasCell page n slot × IsInCell page slot place
