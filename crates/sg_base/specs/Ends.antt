-- What a script's source gives and an output's sink takes, and their counts of faults.
use Rattle.std.specs.Prelude.{◌≡◌, ℕ, ◌+◌, ◌<◌, ◌≤◌, ◌^◌, List, [], ◌++◌, length, take, drop, Option, Some, None}

-- the count of faults rose. One that stands at its greatest value counts as risen
abbrev pub HasRisen : ℕ → ℕ → Type 0
HasRisen before now = now + 1 < 2 ^ 64 → before < now

-- A read of n bytes into the buffer, from a source of which this was left and now that is.
-- Nothing is said of a source that doesn't tell
abbrev pub Gives : Option (List ℕ) → List ℕ → ℕ → Option (List ℕ) → Type 0
Gives None into n after = after ≡ None
Gives (Some text) into n after = (n ≤ length text) × (take n into ≡ take n text) × (after ≡ Some (drop n text)) × (n ≡ 0 → 0 < length into → text ≡ [])

-- the sink took all of the bytes
abbrev pub Takes : Option (List ℕ) → List ℕ → Option (List ℕ) → Type 0
Takes None bytes after = after ≡ None
Takes (Some had) bytes after = after ≡ Some (had ++ bytes)

-- the sink took a front of the bytes
abbrev pub TakesFront : Option (List ℕ) → List ℕ → Option (List ℕ) → Type 0
TakesFront None bytes after = after ≡ None
TakesFront (Some had) bytes after = (n : ℕ) × (n ≤ length bytes) × (after ≡ Some (had ++ take n bytes))
