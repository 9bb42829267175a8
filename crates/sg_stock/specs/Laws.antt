-- How much room contents leave, by their stock.
use Rattle.std.specs.Prelude.{◌≡◌, ℕ, ◌≤◌}
use Rattle.sg_catalog.specs.declared.row.ObjectKind.{ObjectKind}
use Rattle.sg_space.specs.View.{Space}
use Rattle.sg_reading.specs.Reading.{Thing, around_of}
use Rattle.sg_contents.specs.Standing.{Body, Contents, IsBody, IsContents, map_bands}
use Rattle.sg_contents.specs.Meaning.{pages_in, bands_in, thing_of, reading, IsCounted}
use Rattle.sg_room.specs.Marks.{Form, Extent, extent_of, form_in, stock_of}
use Rattle.sg_room.specs.Bounds.{Sizes, ObeysStock, page_bound, band_bound}

-- how many pages and bands a space has, and how many of the bands hold its map
abbrev pub sizes_of : Space → Sizes
sizes_of space = record { pages = space.pages.count; bands = space.bands.count; map = map_bands space }

-- the extent of an object as its pages hold it
abbrev pub extent_in : Thing → Extent
extent_in thing = extent_of (form_in thing) (around_of thing).peak

-- WHAT IS FREE IS WHAT THE OBJECTS LEAVE. Where what isn't free is what the contents have and the map's bands, no more pages are
-- taken than the bounds of their stock say, and exactly its bands
abbrev pub ContentsObeyStock : Type 0
ContentsObeyStock = (space : Space) (s : Contents) → IsContents space s → IsCounted space s
    → ObeysStock (sizes_of space) space.pages.free space.bands.free (stock_of (reading s))

-- so it is of each body by itself
abbrev pub BodyIsBounded : Type 0
BodyIsBounded = (space : Space) (kind : ObjectKind) (root : ℕ) (b : Body) → IsBody space kind root b
    → (pages_in b ≤ page_bound (extent_in (thing_of root b))) × (bands_in b ≡ band_bound (extent_in (thing_of root b)))

-- what had the greater peak may take no less
abbrev pub BoundsRise : Type 0
BoundsRise = (f : Form) (m n : ℕ) → m ≤ n
    → (page_bound (extent_of f m) ≤ page_bound (extent_of f n)) × (band_bound (extent_of f m) ≤ band_bound (extent_of f n))
