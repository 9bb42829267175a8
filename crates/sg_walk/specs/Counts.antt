-- How much is free once all that is reached was set, and what the walk says of the objects' reading.
use Rattle.std.specs.Prelude.{◌≡◌, ℕ, ◌+◌, ◌<◌, ◌≤◌, List, true, false, None, Some, slice_get}
use Rattle.sg_alloc.specs.Flags.{free_of}
use Rattle.sg_alloc.specs.declared.maps.Maps.{Maps}
use Rattle.sg_base.specs.Sheet.{Sheet}
use Rattle.sg_space.specs.View.{Space}
use Rattle.sg_walk.specs.Rows.{CanReach, Reaches}
use Rattle.sg_contents.specs.Standing.{Contents, IsContents, map_bands}
use Rattle.sg_contents.specs.Meaning.{page_total, band_total}

-- so much less is free; page 0, which was set before, is one of the catalogue's
pub record AreCounted (old new : Maps) (s : Contents) : Type 0 where
  pub pages : free_of new.pages + page_total s ≡ free_of old.pages + 1
  pub bands : free_of new.bands + band_total s ≡ free_of old.bands

-- page 0 and the bands of the allocation map were set before, and these bands are taken
pub record IsBegun (space : Space) (old : Maps) : Type 0 where
  pub first : slice_get old.pages 0 ≡ Some true
  pub map : (band : ℕ) → band < map_bands space → slice_get old.bands band ≡ Some true
  pub taken : (band : ℕ) → band < map_bands space → space.bands.at band ≡ None → ⊥

-- of what is taken no more was set before
pub record IsFresh (space : Space) (old : Maps) : Type 0 where
  pub page : (p : ℕ) → 0 < p → (sheet : Sheet) × (space.pages.at p ≡ Some sheet) → slice_get old.pages p ≡ Some false
  pub band : (band : ℕ) → map_bands space ≤ band → (bytes : List ℕ) × (space.bands.at band ≡ Some bytes) → slice_get old.bands band ≡ Some false

-- WHAT THE WALK SAYS OF THE OBJECTS' READING: what isn't free is what the objects have, and the contents are theirs
pub record ReachTells : Type 0 where
  pub counted : (space : Space) (old new : Maps) (r : Reaches space old new) → AreCounted old new r.contents
  pub contents : (space : Space) (old new : Maps) (r : Reaches space old new) → IsBegun space old → IsContents space r.contents
  pub can_reach : (space : Space) (old : Maps) (s : Contents) → IsContents space s → IsFresh space old → CanReach space old
