-- Records: a map of keys to values.
use Rattle.std.specs.Prelude.{◌≡◌, ◌≢◌, ℕ, ◌≤◌, List, length, take, Option, Some, None}

abbrev pub Map : Type 0
Map = List ℕ → Option (List ℕ)

pub record IsRecordKey (key : List ℕ) : Type 0 where
  pub some : 1 ≤ length key
  pub few : length key ≤ 255

-- what a look for a key answers, and leaves at the front of the buffer, where the key is mapped to this
abbrev pub IsFound : Option (List ℕ) → Option ℕ → List ℕ → Type 0
IsFound None found into = found ≡ None
IsFound (Some value) found into = (found ≡ Some (length value)) × (take (length value) into ≡ value)

-- the key is mapped to this value, and all others as before
pub record Puts (old : Map) (key value : List ℕ) (new : Map) : Type 0 where
  pub there : new key ≡ Some value
  pub others : (k : List ℕ) → k ≢ key → new k ≡ old k

-- the key is mapped to nothing, and all others as before
pub record Dels (old : Map) (key : List ℕ) (new : Map) : Type 0 where
  pub gone : new key ≡ None
  pub others : (k : List ℕ) → k ≢ key → new k ≡ old k
