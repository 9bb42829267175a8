-- What the steps of a change of a blob want and do. Between them the root may say another length than the bytes have.
use Rattle.std.specs.Prelude.{◌≡◌, ℕ, ◌+◌, ◌*◌, ◌<◌, ◌≤◌, List, ◌++◌, length, slice_index, IsSome}
use Rattle.sg_base.specs.Overwritten.{overwritten}
use Rattle.sg_base.specs.declared.page.TheConstants.{BAND_SIZE}
use Rattle.sg_ops.specs.Table.{Table, range_at}
use Rattle.sg_space.specs.Owned.{Grows}
use Rattle.sg_space.specs.View.{View, Space, Keeps, MayFill, WritesIn}
use Rattle.sg_blob.specs.Blob.{OwnsPage, OwnsBand}
use Rattle.sg_blob.specs.Raw.{Raw, IsRaw}

-- a root and its bands are there, and what they say has this property
abbrev pub HasRaw : View → ℕ → (Raw → Type 0) → Type 0
HasRaw v root P = v.Told → (r : Raw) × IsRaw v.space.pages.at v.space.bands.at root r × P r

-- where the space shows a root and its bands, what they say has this property
abbrev pub IfRaw : View → ℕ → (Raw → Type 0) → Type 0
IfRaw v root P = v.Shows → (r : Raw) → IsRaw v.space.pages.at v.space.bands.at root r → P r

-- what the root's first cell says
pub record Root : Type 0 where
  pub count : ℕ
  pub peak : ℕ

pub record IsInRange (r : Root) : Type 0 where
  pub below_peak : r.count ≤ r.peak
  pub few : r.peak ≤ 16384000

-- these are the bytes from byte `at` on
pub record IsCopied (bytes : List ℕ) (at : ℕ) (into : List ℕ) : Type 0 where
  pub same : (k : ℕ) → k < length into → slice_index into k ≡ slice_index bytes (at + k)

-- The root and the bands say something else now. The bands are those from before and some that were free, and no other
-- page or band has changed.
pub record RawTurns (old new : Space) (root : ℕ) (r r' : Raw) : Type 0 where
  pub raw : IsRaw new.pages.at new.bands.at root r'
  pub pages : Grows old.pages new.pages (OwnsPage root) (OwnsPage root) 1 1
  pub bands : Grows old.bands new.bands (OwnsBand r.bands) (OwnsBand r'.bands) (length r.bands) (length r'.bands)

-- a step after which the root and the bands say what `f` makes of what they said
pub record Did (v w : View) (root : ℕ) (Can : Raw → Type 0) (f : Raw → Raw) : Type 0 where
  pub keeps : v.Told → Keeps v w
  pub turns : v.Told → (r : Raw) → IsRaw v.space.pages.at v.space.bands.at root r → Can r → RawTurns v.space w.space root r (f r)
  pub wrote : v.Told → (r : Raw) → IsRaw v.space.pages.at v.space.bands.at root r → Can r → WritesIn (OwnsBand (f r).bands) v w

-- a step after which they say something with a relation to what they said
pub record DidSome (v w : View) (root : ℕ) (Can : Raw → Type 0) (Is : Raw → Raw → Type 0) : Type 0 where
  pub keeps : v.Told → Keeps v w
  pub turns : v.Told → (r : Raw) → IsRaw v.space.pages.at v.space.bands.at root r → Can r → (r' : Raw) × RawTurns v.space w.space root r r' × Is r r' × WritesIn (OwnsBand r'.bands) v w

-- so many bytes from byte `at` on are bytes of the bands, and follow those that are known
pub record HasPlace (at count : ℕ) (r : Raw) : Type 0 where
  pub from : at ≤ length r.bytes
  pub within : at + count ≤ BAND_SIZE * length r.bands

-- other bytes from byte `at` on
abbrev pub with_bytes : (at : ℕ) (bytes : List ℕ) → Raw → Raw
with_bytes at bytes r = record r { bytes = overwritten r.bytes at bytes }

-- other numbers in the root
abbrev pub with_root : (count peak : ℕ) → Raw → Raw
with_root count peak r = record r { count = count; peak = peak }

-- a range operation may paint with this argument
pub record CanPaintBy (t : Table) (code : ℕ) (arg : List ℕ) : Type 0 where
  pub known : IsSome (range_at t code)
  pub short : length arg ≤ 256

-- a band may be added behind so many
pub record CanAdd (v : View) (root j : ℕ) (r : Raw) : Type 0 where
  pub behind : length r.bands ≡ j
  pub free : 0 < v.space.bands.free
  pub may_take : v.MayTake
  pub may_fill : MayFill v root 501

-- bands may be added until there are so many
pub record CanGrow (v : View) (root have want : ℕ) (r : Raw) : Type 0 where
  pub behind : length r.bands ≡ have
  pub free : want ≤ have + v.space.bands.free
  pub may_take : have < want → v.MayTake
  pub may_fill : have < want → MayFill v root 501

-- the second list has the elements of the first, and more behind them
pub record Extends (old new : List ℕ) : Type 0 where
  pub more : List ℕ
  pub is : new ≡ old ++ more

-- so many bands, and all else as before
pub record IsGrown (count : ℕ) (r r' : Raw) : Type 0 where
  pub same_count : r'.count ≡ r.count
  pub same_peak : r'.peak ≡ r.peak
  pub same_bytes : r'.bytes ≡ r.bytes
  pub long : length r'.bands ≡ count
  pub extends : Extends r.bands r'.bands
