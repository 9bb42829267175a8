-- WHAT PAGES REACH IS TAKEN.
use Rattle.std.specs.Prelude.{◌≡◌, ℕ, ◌+◌, Bool, true, List, Option}
use Rattle.sg_alloc.specs.Flags.{map_bands_of}
use Rattle.sg_base.specs.Sheet.{Sheet}
use Rattle.sg_action.specs.States.{State, Extent}
use Rattle.sg_contents.specs.Standing.{Contents, IsReachedPage, IsReachedBand}
use Rattle.sg_contents.specs.Meaning.{page_total, band_total}
use Rattle.sg_reader.specs.Alike.{ReadsAs}
use Rattle.sg_store.specs.Engine.{Sizes}

-- a state of these pages, whatever the bands' bytes are and however many the state says there are
abbrev pub with_bytes : Extent → (ℕ → Option Sheet) → (ℕ → List ℕ) → State
with_bytes size at bytes = record { size = size; pages = at; bands = bytes }

-- Each page and each band is taken that these pages reach. What they reach doesn't depend on the bytes of bands, which are data, so it is said
-- whatever those are: bytes that are put back take nothing
pub record AreTaken (z : Sizes) (has has_band : ℕ → Bool) (at : ℕ → Option Sheet) : Type 0 where
  pub pages : (size : Extent) (bytes : ℕ → List ℕ) (s : Contents) → ReadsAs z.pages z.bands (with_bytes size at bytes) s → (p : ℕ) → IsReachedPage s p → has p ≡ true
  pub bands : (size : Extent) (bytes : ℕ → List ℕ) (s : Contents) → ReadsAs z.pages z.bands (with_bytes size at bytes) s → (b : ℕ) → IsReachedBand s b → has_band b ≡ true

-- and nothing else is, but the bands of the allocation map: so many pages and bands are free
pub record AreCounted (z : Sizes) (free free_bands : ℕ) (at : ℕ → Option Sheet) : Type 0 where
  pub pages : (size : Extent) (bytes : ℕ → List ℕ) (s : Contents) → ReadsAs z.pages z.bands (with_bytes size at bytes) s → free + page_total s ≡ z.pages
  pub bands : (size : Extent) (bytes : ℕ → List ℕ) (s : Contents) → ReadsAs z.pages z.bands (with_bytes size at bytes) s
      → free_bands + (map_bands_of z.pages z.bands + band_total s) ≡ z.bands
