-- What a space in memory shows.
use Rattle.std.specs.Prelude.{◌≡◌, ℕ, ◌+◌, ◌<◌, ◌≤◌, List, Some, None, ⊤}
use Rattle.sg_alloc.specs.Flags.{map_bands_of}
use Rattle.sg_base.specs.Sheet.{Sheet, sheet_of}
use Rattle.sg_space.specs.Bands.{IsEmptyBand}
use Rattle.sg_space.specs.Pages.{empty_sheet}
use Rattle.sg_space.specs.Units.{HasAt}
use Rattle.sg_space.specs.Flagged.{units_of}
use Rattle.sg_space.specs.View.{Space, View}
use Rattle.sg_space.specs.declared.memory.MemSpace.{MemSpace}
use Rattle.sg_space.specs.declared.stock.MemBand.{MemBand}
use Rattle.sg_space.specs.declared.stock.MemPage.{MemPage}

-- what a page and a band in memory contain
abbrev pub sheet_in : MemPage → Sheet
sheet_in p = sheet_of p.bytes.items

abbrev pub bytes_in : MemBand → List ℕ
bytes_in b = b.bytes.items

abbrev pub space_of : MemSpace → Space
space_of s = record {
  pages = units_of sheet_in s.maps.pages s.pages.items;
  bands = units_of bytes_in s.maps.bands s.bands.items;
}

-- it tells all, knows no actions and no log, and never fails
abbrev pub memory_view : MemSpace → View
memory_view s = record {
  Told = ⊤;
  Shows = ⊤;
  space = space_of s;
  faults = 0;
  records = 0;
  IsNearEnd = ⊥;
  MayTake = ⊤;
  MayHave = λ page slots. ⊤;
  HasWritten = λ band. ⊥;
  IsStill = ⊤;
}

-- a new space: page 0 is an empty catalogue page, the first bands are those of the allocation map, and all else is free
pub record IsNew (space : Space) (pages bands : ℕ) : Type 0 where
  pub catalogue : space.pages.at 0 ≡ Some (empty_sheet 1)
  pub other_pages : (p : ℕ) → 0 < p → space.pages.at p ≡ None
  pub free_pages : space.pages.free + 1 ≡ pages
  pub page_count : space.pages.count ≡ pages
  pub map_bands : (b : ℕ) → b < map_bands_of pages bands → HasAt space.bands.at b IsEmptyBand
  pub other_bands : (b : ℕ) → map_bands_of pages bands ≤ b → space.bands.at b ≡ None
  pub free_bands : space.bands.free + map_bands_of pages bands ≡ bands
  pub band_count : space.bands.count ≡ bands
