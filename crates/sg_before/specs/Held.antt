-- WHAT BANDS HOLD: the bytes of a list, one band after another, or zeros; and which of them an action had or took.
use Rattle.std.specs.Prelude.{◌≡◌, ℕ, ◌+◌, ◌<◌, ◌≤◌, true, List, [], ◌∷◌, length, slice_get, Some}
use Rattle.sg_action.specs.States.{Change, Kept}
use Rattle.sg_reading.specs.Strokes.{byte_at}
use Rattle.sg_before.specs.Befores.{IsTakenBy}

-- one band has the bytes of a list from a place on
pub record IsHeld (bytes : List ℕ) (from : ℕ) (band : List ℕ) : Type 0 where
  pub size : length band ≡ 32768
  pub each : (k : ℕ) → k < 32768 → byte_at band k ≡ byte_at bytes (from + k)

-- and each band of a list, one after another
abbrev pub AreHeld : (ℕ → List ℕ) → List ℕ → ℕ → List ℕ → Type 0
AreHeld s bytes from [] = Unit {0}
AreHeld s bytes from (b ∷ bs) = IsHeld bytes from (s b) × AreHeld s bytes (from + 32768) bs

-- no two of them are one
abbrev pub AreApart : List ℕ → Type 0
AreApart bs = (i j b : ℕ) → slice_get bs i ≡ Some b → slice_get bs j ≡ Some b → i ≡ j

-- the bands that a blob had when the action began, and those that the action took for it
pub record HadBands (kept : Kept) (map : ℕ) (bs : List ℕ) : Type 0 where
  pub had : (j b : ℕ) → slice_get bs j ≡ Some b → kept.bands b ≡ true
  pub behind : (j b : ℕ) → slice_get bs j ≡ Some b → map ≤ b

pub record TookBands (map : ℕ) (ds : List Change) (more : List ℕ) : Type 0 where
  pub taken : (j b : ℕ) → slice_get more j ≡ Some b → IsTakenBy ds b
  pub behind : (j b : ℕ) → slice_get more j ≡ Some b → map ≤ b

-- a band of zeros
pub record IsZeros (xs : List ℕ) : Type 0 where
  pub size : length xs ≡ 32768
  pub each : (k : ℕ) → k < 32768 → byte_at xs k ≡ 0
