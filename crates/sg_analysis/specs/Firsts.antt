-- The first ones of some numbers.
use Rattle.std.specs.Prelude.{ℕ, nat_lt, if◌then◌else◌, List, [], ◌∷◌, Option, Some, None}

-- the first of some, and the one behind it
abbrev pub first : List ℕ → Option ℕ
first [] = None
first (n ∷ ns) = Some n

abbrev pub second : List ℕ → Option ℕ
second [] = None
second (n ∷ ns) = first ns

-- without the first
abbrev pub rest : List ℕ → List ℕ
rest [] = []
rest (n ∷ ns) = ns

-- without the first ones, as long as they are above a number
abbrev pub cut_to : ℕ → List ℕ → List ℕ
cut_to least [] = []
cut_to least (n ∷ ns) = if nat_lt least n then cut_to least ns else n ∷ ns
