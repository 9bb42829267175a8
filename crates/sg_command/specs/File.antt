-- What is read of a source that gives the text of a geometry file.
use Rattle.std.specs.Prelude.{◌≡◌, ℕ, ◌≤◌, List, [], length, take, drop, Option, Some, None}
use Rattle.sg_geometry.specs.declared.geometry.Geometry.{Geometry}
use Rattle.sg_command.specs.Sizes.{Says}

-- so many bytes of what was left of a source are at the front of the buffer, and what comes behind them is left. Nothing is said of a source that doesn't tell
abbrev pub IsFilled : Option (List ℕ) → List ℕ → ℕ → Option (List ℕ) → Type 0
IsFilled None into n left = left ≡ None
IsFilled (Some text) into n left = (n ≤ length text) × (take n into ≡ take n text) × (left ≡ Some (drop n text))

-- no more than so many bytes are taken of what was left of a source
abbrev pub IsTakenOf : ℕ → Option (List ℕ) → Option (List ℕ) → Type 0
IsTakenOf most None left = left ≡ None
IsTakenOf most (Some text) left = (n : ℕ) × (n ≤ most) × (left ≡ Some (drop n text))

-- nothing is left of it
abbrev pub IsAtEnd : Option (List ℕ) → Type 0
IsAtEnd None = Unit {0}
IsAtEnd (Some rest) = rest ≡ []

-- a text says no sizes
abbrev pub SaysNone : List ℕ → Type 0
SaysNone text = (g : Geometry) → Says text g → ⊥
