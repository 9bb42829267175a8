-- The places of the records of a log that are repeated.
use Rattle.std.specs.Prelude.{◌≡◌, ℕ, ◌+◌, ◌-◌, nat_lt, if◌then◌else◌, List, [], ◌∷◌, ◌++◌, Option, Some, None}
use Rattle.sg_record.specs.Changes.{Change}
use Rattle.sg_record.specs.Changes.Change.{Page, SegWrite, SegOp}
use Rattle.sg_redo.specs.Places.{changed_by}
use Rattle.sg_redo.specs.declared.place.Place.{Place}
use Rattle.sg_log.specs.Frames.{Numbered}

-- the unit that is changed: a page has its own number, a band the number of pages and its own
abbrev pub unit_of : (pages : ℕ) → Change → ℕ
unit_of pages (Page c) = c.page
unit_of pages (SegWrite c) = pages + c.band
unit_of pages (SegOp c) = pages + c.band

abbrev pub place_with : (pages base lsn : ℕ) → Option Change → List Place
place_with pages base lsn None = []
place_with pages base lsn (Some c) = record { unit = unit_of pages c; lsn = lsn; at = lsn - base } ∷ []

-- the place of a record from the point on that makes a change, in the text of a log whose first byte has the number base
abbrev pub place_in : (pages base point : ℕ) → Numbered → List Place
place_in pages base point n = if nat_lt n.lsn point then [] else place_with pages base n.lsn (changed_by n.is.says)

abbrev pub places_in : (pages base point : ℕ) → List Numbered → List Place
places_in pages base point [] = []
places_in pages base point (n ∷ ns) = place_in pages base point n ++ places_in pages base point ns
