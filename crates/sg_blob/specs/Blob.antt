-- A blob: what callers see of it, and how it stands in a page and in bands.
use Rattle.std.specs.Prelude.{◌≡◌, ℕ, ◌+◌, ◌*◌, ◌<◌, ◌≤◌, List, length, slice_get, Option, Some}
use Rattle.sg_base.specs.Sheet.{Sheet}
use Rattle.sg_base.specs.declared.page.TheConstants.{BAND_SIZE}
use Rattle.sg_blob.specs.Raw.{Raw, IsRaw}

-- a list of bytes. Its peak is the greatest length that it had since it was made
pub record Blob : Type 0 where
  pub bytes : List ℕ
  pub peak : ℕ
  -- the numbers of its bands, in the order of its bytes
  pub bands : List ℕ

-- what the root and the bands of a blob say: its length is that of its bytes, which are followed by zeros
abbrev pub raw_of : Blob → Raw
raw_of b = record { count = length b.bytes; peak = b.peak; bands = b.bands; bytes = b.bytes }

-- The blob stands in this page and in as many bands as its peak wants. `pages` and `bands` are what each page says
-- and what bytes each band has.
pub record IsBlob (pages : ℕ → Option Sheet) (bands : ℕ → Option (List ℕ)) (root : ℕ) (b : Blob) : Type 0 where
  pub raw : IsRaw pages bands root (raw_of b)
  pub least : b.peak ≤ BAND_SIZE * length b.bands
  pub most : BAND_SIZE * length b.bands < b.peak + BAND_SIZE

-- the page is the blob's
abbrev pub OwnsPage : (root p : ℕ) → Type 0
OwnsPage root p = p ≡ root

-- the band is one of these
abbrev pub OwnsBand : (bands : List ℕ) (b : ℕ) → Type 0
OwnsBand bands b = (j : ℕ) × (slice_get bands j ≡ Some b)
