-- What the calls of a space do to its bands.
use Rattle.std.specs.Prelude.{◌≡◌, ℕ, ◌+◌, ◌<◌, ◌≤◌, ◌^◌, List, length, slice_index, Some, IsSome}
use Rattle.sg_base.specs.Overwritten.{overwritten}
use Rattle.sg_base.specs.declared.page.TheConstants.{BAND_SIZE}
use Rattle.sg_ops.specs.Table.{Table, range_at, rendered}
use Rattle.sg_space.specs.Units.{IsChanged, IsTaken, IsFreed}
use Rattle.sg_space.specs.View.{View, Keeps, WritesIn}

-- a band that was just taken
pub record IsEmptyBand (band : List ℕ) : Type 0 where
  pub size : length band ≡ BAND_SIZE
  pub zero_at : (k : ℕ) → slice_index band k ≡ 0

-- so many bytes from there on are within a band, and no more than one record holds
pub record IsPiece (at count : ℕ) : Type 0 where
  pub some : 1 ≤ count
  pub most : count ≤ 8192
  pub within : at + count ≤ BAND_SIZE

pub record IsWritable (v : View) (b at count : ℕ) : Type 0 where
  pub there : IsSome (v.space.bands.at b)
  pub piece : IsPiece at count

abbrev pub CanWrite : View → ℕ → ℕ → ℕ → Type 0
CanWrite v b at count = v.Told → IsWritable v b at count

pub record Wrote (old new : View) (b at : ℕ) (bytes : List ℕ) : Type 0 where
  pub keeps : Keeps old new
  pub bands : old.Told → IsChanged old.space.bands new.space.bands b (λ band. Some (overwritten band at bytes))
  pub pages : old.Told → new.space.pages ≡ old.space.pages
  pub writes : WritesIn (λ n. n ≡ b) old new

-- a range operation may paint these bytes
pub record IsPaintable (t : Table) (v : View) (b at count code position : ℕ) (arg : List ℕ) : Type 0 where
  pub writable : IsWritable v b at count
  pub known : IsSome (range_at t code)
  pub short : length arg ≤ 256
  pub ends : position + count ≤ 16384000

abbrev pub CanPaint : Table → View → ℕ → ℕ → ℕ → ℕ → ℕ → List ℕ → Type 0
CanPaint t v b at count code position arg = v.Told → IsPaintable t v b at count code position arg

-- painting is writing what the range operation gives
abbrev pub Painted : Table → View → View → ℕ → ℕ → ℕ → ℕ → ℕ → List ℕ → Type 0
Painted t old new b at count code position arg = Wrote old new b at (rendered (range_at t code) arg position count)

pub record TookBand (old new : View) (b : ℕ) : Type 0 where
  pub keeps : Keeps old new
  pub bands : old.Told → IsTaken old.space.bands new.space.bands b IsEmptyBand
  pub pages : old.Told → new.space.pages ≡ old.space.pages
  pub small : b < 2 ^ 32
  pub writes : WritesIn (λ n. n ≡ b) old new

pub record FreedBand (old new : View) (b : ℕ) : Type 0 where
  pub told : old.Told → new.Told
  pub bands : old.Told → IsFreed old.space.bands new.space.bands b
  pub pages : old.Told → new.space.pages ≡ old.space.pages
  pub may_have : (page slots : ℕ) → old.MayHave page slots → new.MayHave page slots
  pub wrote : (n : ℕ) → new.HasWritten n → old.HasWritten n
