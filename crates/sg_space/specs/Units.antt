-- Pages, or bands: numbered things of one sort, of which some are taken and the others free.
use Rattle.std.specs.Prelude.{◌≡◌, ◌≢◌, ℕ, ◌+◌, ◌≤◌, Option, Some, None, IsSome, is_none}
use Rattle.std.specs.List.{count_by, range_with_len}

pub record Units (A : Type 0) : Type 0 where
  -- what each that is taken contains
  pub at : ℕ → Option A
  -- how many are free
  pub free : ℕ
  -- how many there are
  pub count : ℕ

-- the one of this number is taken, and what it contains has this property
pub record HasAt {A : Type 0} (at : ℕ → Option A) (n : ℕ) (P : A → Type 0) : Type 0 where
  pub what : A
  pub is : at n ≡ Some what
  pub has : P what

-- the count of free ones is exact, and none is taken that isn't there
pub record IsExact {A : Type 0} (units : Units A) : Type 0 where
  pub free : units.free ≡ count_by (λ n. is_none (units.at n)) (range_with_len 0 units.count)
  pub past : (n : ℕ) → units.count ≤ n → units.at n ≡ None

-- one that is taken contains what the change makes of it, and all others are as before
pub record IsChanged {A : Type 0} (old new : Units A) (n : ℕ) (change : A → Option A) : Type 0 where
  pub here : (x : A) → old.at n ≡ Some x → new.at n ≡ change x
  pub others : (m : ℕ) → m ≢ n → new.at m ≡ old.at m
  pub free : new.free ≡ old.free
  pub count : new.count ≡ old.count

-- one that was free contains this, and all others are as before
pub record IsTaken {A : Type 0} (old new : Units A) (n : ℕ) (P : A → Type 0) : Type 0 where
  pub was_free : old.at n ≡ None
  pub fresh : HasAt new.at n P
  pub others : (m : ℕ) → m ≢ n → new.at m ≡ old.at m
  pub free : new.free + 1 ≡ old.free
  pub count : new.count ≡ old.count

-- one isn't taken any more, and all others are as before
pub record IsFreed {A : Type 0} (old new : Units A) (n : ℕ) : Type 0 where
  pub gone : new.at n ≡ None
  pub others : (m : ℕ) → m ≢ n → new.at m ≡ old.at m
  pub free : new.free ≡ old.free + 1
  pub count : new.count ≡ old.count
