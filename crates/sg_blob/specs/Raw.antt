-- What a root page and the bands that it names say.
use Rattle.std.specs.Prelude.{◌≡◌, ℕ, ◌+◌, ◌*◌, ◌<◌, ◌≤◌, ◌^◌, List, ◌++◌, length, slice_get, slice_index, Option, Some}
use Rattle.byteorder.specs.Endian.{little_bytes}
use Rattle.sg_base.specs.Page.{cell_in}
use Rattle.sg_base.specs.Sheet.{Sheet}
use Rattle.sg_base.specs.declared.page.TheConstants.{BAND_SIZE}
use Rattle.sg_space.specs.Links.{link_cell}
use Rattle.sg_space.specs.Units.{HasAt}

pub record Raw : Type 0 where
  -- the length that the root says, and the greatest one that it said
  pub count : ℕ
  pub peak : ℕ
  -- the numbers of the bands
  pub bands : List ℕ
  -- what the bands hold, with or without the zeros at its end. It may be longer or shorter than the root says
  pub bytes : List ℕ

-- the root's first cell: two numbers of 4 bytes
abbrev pub root_cell : (count peak : ℕ) → List ℕ
root_cell count peak = little_bytes 4 count ++ little_bytes 4 peak

-- a page of kind 7, with these numbers in its first cell and the number of a band in each later one
pub record IsRoot (count peak : ℕ) (bands : List ℕ) (sheet : Sheet) : Type 0 where
  pub kind : sheet.kind ≡ 7
  pub first : cell_in sheet.slots 0 ≡ Some (root_cell count peak)
  pub links : (j : ℕ) → cell_in sheet.slots (j + 1) ≡ link_cell (slice_get bands j)
  pub few : length sheet.slots ≤ 501

-- band j, from 0 on, has its part of the bytes, and 0 past their end
pub record IsPart (bytes : List ℕ) (j : ℕ) (band : List ℕ) : Type 0 where
  pub size : length band ≡ BAND_SIZE
  pub each : (k : ℕ) → k < BAND_SIZE → slice_index band k ≡ slice_index bytes (BAND_SIZE * j + k)

-- The root page and the bands say this. `pages` and `bands` are what each page says and what bytes each band has.
pub record IsRaw (pages : ℕ → Option Sheet) (bands : ℕ → Option (List ℕ)) (root : ℕ) (r : Raw) : Type 0 where
  pub first : HasAt pages root (IsRoot r.count r.peak r.bands)
  pub part : (j b : ℕ) → slice_get r.bands j ≡ Some b → HasAt bands b (IsPart r.bytes j)
  -- the bands have numbers of 4 bytes, and no two are one
  pub fit : (j b : ℕ) → slice_get r.bands j ≡ Some b → b < 2 ^ 32
  pub apart : (i j b : ℕ) → slice_get r.bands i ≡ Some b → slice_get r.bands j ≡ Some b → i ≡ j
  pub below_peak : r.count ≤ r.peak
  pub few : r.peak ≤ 16384000
  pub enough : length r.bytes ≤ BAND_SIZE * length r.bands
