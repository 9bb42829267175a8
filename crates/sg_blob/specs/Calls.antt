-- What the calls on a blob want and do.
use Rattle.std.specs.Prelude.{◌≡◌, ◌≢◌, ℕ, ◌+◌, ◌*◌, ◌-◌, max, [], ◌++◌, ◌<◌, ◌≤◌, List, length, take, replicate}
use Rattle.sg_base.specs.Overwritten.{overwritten}
use Rattle.sg_base.specs.declared.page.TheConstants.{BAND_SIZE}
use Rattle.sg_ops.specs.Table.{Table, range_at, rendered}
use Rattle.sg_space.specs.Owned.{Becomes}
use Rattle.sg_space.specs.View.{View, Space, Keeps, MayFill, WritesIn}
use Rattle.sg_blob.specs.Blob.{Blob, IsBlob, OwnsPage, OwnsBand}
use Rattle.sg_blob.specs.Raw.{Raw, IsRaw}
use Rattle.sg_blob.specs.Steps.{Did, Extends, with_root}

-- there is a blob, and it has this property
abbrev pub HasBlob : View → ℕ → (Blob → Type 0) → Type 0
HasBlob v root P = v.Told → (b : Blob) × IsBlob v.space.pages.at v.space.bands.at root b × P b

-- where the space shows a blob, it has this property
abbrev pub IfBlob : View → ℕ → (Blob → Type 0) → Type 0
IfBlob v root P = v.Shows → (b : Blob) → IsBlob v.space.pages.at v.space.bands.at root b → P b

-- The blob is another one now. Its root is the page that it was, and its bands are those from before and some that were
-- free. No other page and no other band has changed.
pub record Turns (old new : Space) (root : ℕ) (b b' : Blob) : Type 0 where
  pub blob : IsBlob new.pages.at new.bands.at root b'
  pub pages : Becomes old.pages new.pages (OwnsPage root) (OwnsPage root) 1 1
  pub bands : Becomes old.bands new.bands (OwnsBand b.bands) (OwnsBand b'.bands) (length b.bands) (length b'.bands)

-- what a call does to each blob that stood there and of which it could be asked. It writes bytes in the blob's own bands alone: so what
-- the records of an action of it found is all on these
pub record DidIf (v w : View) (root : ℕ) (Can : Blob → Type 0) (Is : Blob → Blob → Type 0) : Type 0 where
  pub keeps : v.Told → Keeps v w
  pub turns : v.Told → (b : Blob) → IsBlob v.space.pages.at v.space.bands.at root b → Can b → (b' : Blob) × Turns v.space w.space root b b' × Is b b' × WritesIn (OwnsBand b'.bands) v w

-- there are bands for a blob of this length. Where it wants more than it has, the open action may take them, and may open
-- their slots in the root
pub record HasBandsFor (v : View) (root size : ℕ) (b : Blob) : Type 0 where
  pub free : size ≤ BAND_SIZE * (length b.bands + v.space.bands.free)
  pub may_take : BAND_SIZE * length b.bands < size → v.MayTake
  pub may_fill : BAND_SIZE * length b.bands < size → MayFill v root 501

-- so many bytes may be written from byte `at` on, which is within the blob or right behind it
pub record CanWriteAt (v : View) (root at count : ℕ) (b : Blob) : Type 0 where
  pub from : at ≤ length b.bytes
  pub bands : HasBandsFor v root (at + count) b

-- the bytes stand there now. The length rose where it had to
pub record IsPlaced (at : ℕ) (written : List ℕ) (b b' : Blob) : Type 0 where
  pub bytes : b'.bytes ≡ overwritten b.bytes at written
  pub peak : b'.peak ≡ max b.peak (at + length written)
  pub bands : Extends b.bands b'.bands

-- the range has what the operation gives of its positions
pub record IsPaintedAt (t : Table) (at count code : ℕ) (arg : List ℕ) (b b' : Blob) : Type 0 where
  pub bytes : b'.bytes ≡ overwritten b.bytes at (rendered (range_at t code) arg at count)
  pub peak : b'.peak ≡ b.peak
  pub bands : b'.bands ≡ b.bands

-- a list cut to this length, or with zeros up to it
abbrev pub resized : ℕ → List ℕ → List ℕ
resized size bytes = take size bytes ++ replicate (size - length bytes) 0

pub record IsResized (size : ℕ) (b b' : Blob) : Type 0 where
  pub bytes : b'.bytes ≡ resized size b.bytes
  pub peak : b'.peak ≡ max b.peak size
  pub bands : Extends b.bands b'.bands

-- a blob without bytes and without bands
abbrev pub empty_blob : Blob
empty_blob = record { bytes = []; peak = 0; bands = [] }

-- a page that was free is the root of such a blob, and no other page and no band has changed
pub record IsMade (old new : Space) (root : ℕ) : Type 0 where
  pub blob : IsBlob new.pages.at new.bands.at root empty_blob
  pub pages : Becomes old.pages new.pages (λ _. ⊥) (OwnsPage root) 0 1
  pub bands : new.bands ≡ old.bands

pub record Made (v w : View) (root : ℕ) : Type 0 where
  pub keeps : v.Told → Keeps v w
  pub done : v.Told → IsMade v.space w.space root
  -- the root may have as many slots as a page has the bytes for
  pub may_fill : v.Told → MayFill w root 1018

-- the bytes are as many as this length, which is no greater than the peak, and they are followed by zeros
pub record CanRestore (size : ℕ) (r : Raw) : Type 0 where
  pub long : length r.bytes ≡ size
  pub below : size ≤ r.peak
  pub least : r.peak ≤ BAND_SIZE * length r.bands
  pub most : BAND_SIZE * length r.bands < r.peak + BAND_SIZE

-- the root says this length and nothing else has changed, so that these bytes are a blob's
pub record Restored (v w : View) (root size : ℕ) : Type 0 where
  pub did : Did v w root (CanRestore size) (λ r. with_root size r.peak r)
  pub blob : v.Told → (r : Raw) → IsRaw v.space.pages.at v.space.bands.at root r → CanRestore size r
      → IsBlob w.space.pages.at w.space.bands.at root (record { bytes = r.bytes; peak = r.peak; bands = r.bands })

-- the blob's page and its bands are free, and no other has changed
pub record IsGone (old new : Space) (root : ℕ) (b : Blob) : Type 0 where
  pub pages : Becomes old.pages new.pages (OwnsPage root) (λ _. ⊥) 1 0
  pub bands : Becomes old.bands new.bands (OwnsBand b.bands) (λ _. ⊥) (length b.bands) 0

pub record Gone (v w : View) (root : ℕ) : Type 0 where
  pub told : v.Told → w.Told
  pub gone : v.Told → (b : Blob) → IsBlob v.space.pages.at v.space.bands.at root b → IsGone v.space w.space root b
  pub may_have : v.Told → (page slots : ℕ) → page ≢ root → v.MayHave page slots → w.MayHave page slots
