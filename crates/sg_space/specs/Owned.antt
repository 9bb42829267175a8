-- What a structure owns of the pages, or of the bands, of a space, and what a change of it does to the others.
use Rattle.std.specs.Prelude.{◌≡◌, ℕ, ◌+◌, ◌<◌, ◌⊎◌, List, slice_get, Some, None}
use Rattle.sg_space.specs.Units.{Units}

-- A structure owned `count` units and owns `count'` now: it has given back what it doesn't own any more
-- and has taken what was free, and no other unit has changed.
pub record Becomes {A : Type 0} (old new : Units A) (own own' : ℕ → Type 0) (count count' : ℕ) : Type 0 where
  pub others : (n : ℕ) → ¬ own n → ¬ own' n → new.at n ≡ old.at n
  pub taken : (n : ℕ) → own' n → own n ⊎ (old.at n ≡ None)
  pub given : (n : ℕ) → own n → ¬ own' n → new.at n ≡ None
  pub exactly : new.free + count' ≡ old.free + count
  pub all : new.count ≡ old.count

-- the same, where nothing is given back
pub record Grows {A : Type 0} (old new : Units A) (own own' : ℕ → Type 0) (count count' : ℕ) : Type 0 where
  pub others : (n : ℕ) → ¬ own' n → new.at n ≡ old.at n
  pub more : (n : ℕ) → own n → own' n
  pub taken : (n : ℕ) → own' n → own n ⊎ (old.at n ≡ None)
  pub exactly : new.free + count' ≡ old.free + count
  pub all : new.count ≡ old.count

-- what two structures own is told apart, and what the second owns is taken
pub record AreApart {A : Type 0} (units : Units A) (own other : ℕ → Type 0) : Type 0 where
  pub apart : (n : ℕ) → own n → ¬ other n
  pub there : (n : ℕ) → other n → units.at n ≡ None → ⊥

-- it is one of a list of numbers
abbrev pub IsOneOf : (ns : List ℕ) (n : ℕ) → Type 0
IsOneOf ns n = (j : ℕ) × (slice_get ns j ≡ Some n)

-- it is one of the first of a list of numbers
abbrev pub IsFirst : (ns : List ℕ) (count n : ℕ) → Type 0
IsFirst ns count n = (j : ℕ) × (j < count) × (slice_get ns j ≡ Some n)

-- the first of these are free now, and no other has changed
pub record AreFreed {A : Type 0} (old new : Units A) (ns : List ℕ) (count : ℕ) : Type 0 where
  pub gone : (n : ℕ) → IsFirst ns count n → new.at n ≡ None
  pub others : (n : ℕ) → ¬ IsFirst ns count n → new.at n ≡ old.at n
  pub free : new.free ≡ old.free + count
  pub all : new.count ≡ old.count
