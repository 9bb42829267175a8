-- What is read of one page of the catalogue.
use Rattle.std.specs.Prelude.{◌≡◌, ℕ, ◌<◌, ◌≤◌, ◌⊎◌, Bool, List, ◌++◌, length, map, Option, Some, None, is_some, is_none, option_and_then, MatchOption, ⊤}
use Rattle.std.specs.List.{find, filter, filter_map, count_by}
use Rattle.sg_base.specs.Page.{cell_in}
use Rattle.sg_base.specs.Sheet.{Sheet}
use Rattle.sg_base.specs.Slots.{Slots, IsFree}
use Rattle.sg_base.specs.declared.numbers.PageNo.{PageNo}
use Rattle.sg_catalog.specs.Catalog.{is_there, is_buried, is_tomb_at, is_tomb_of}
use Rattle.sg_catalog.specs.Row.{row_of}
use Rattle.sg_catalog.specs.declared.look.Found.{Found}
use Rattle.sg_catalog.specs.declared.look.Header.{Header}
use Rattle.sg_catalog.specs.declared.look.Measured.{Measured}
use Rattle.sg_catalog.specs.declared.look.Unlisted.{Unlisted}
use Rattle.sg_catalog.specs.declared.look.Unlisted.TheVariants.{Broken, Memory}
use Rattle.sg_catalog.specs.declared.look.Seen.{Seen}
use Rattle.sg_catalog.specs.declared.row.Row.{Row}
use Rattle.sg_catalog.specs.declared.wanted.Wanted.{Wanted}
use Rattle.sg_catalog.specs.declared.wanted.Wanted.TheVariants.{There, Buried, TombAt, TombOf}

-- whether a row is one that a search is for
abbrev pub fits : Wanted → Row → Bool
fits (There name) row = is_there name row
fits (Buried by) row = is_buried by row
fits (TombAt root) row = is_tomb_at root.0 row
fits (TombOf name root) row = is_tomb_of name root.0 row

-- the row in a slot, if one is spelled there
abbrev pub row_in : Option (List ℕ) → Option Row
row_in slot = option_and_then row_of slot

-- the rows that some slots spell
abbrev pub read_rows : Slots → List Row
read_rows slots = filter_map row_in slots

-- what the rows are that are there and not tombstones
abbrev pub is_object : Row → Bool
is_object row = is_none row.dropper

-- THE NAMES of the objects among some rows
abbrev pub names_of : List Row → List (List ℕ)
names_of rows = map (λ row. row.name) (filter is_object rows)

-- a page of the catalogue, with these links
pub record IsHeaderOf (sheet : Sheet) (head : Header) : Type 0 where
  pub kind : sheet.kind ≡ 1
  pub few : length sheet.slots ≤ 79
  pub links : sheet.links ≡ (head.next.0, head.peak)

-- a page of another kind, or with too many slots
abbrev pub IsNoPage : Sheet → Type 0
IsNoPage sheet = sheet.kind ≡ 1 → length sheet.slots ≤ 79 → ⊥

-- a slot is full and spells no row
pub record HasUnformed (slots : Slots) : Type 0 where
  pub slot : ℕ
  pub cell : List ℕ
  pub at : cell_in slots slot ≡ Some cell
  pub none : row_of cell ≡ None

-- the slot has the first row of the page that passes the test
pub record IsSeen (p : Row → Bool) (page : PageNo) (slots : Slots) (f : Found) : Type 0 where
  pub page_is : f.spot.page ≡ page
  pub at : row_in (cell_in slots f.spot.slot) ≡ Some f.row
  pub first : find p (read_rows slots) ≡ Some f.row

abbrev pub SeenIn : (Row → Bool) → PageNo → Slots → Option Found → Type 0
SeenIn p page slots found = MatchOption found (find p (read_rows slots) ≡ None) (IsSeen p page slots)

-- how many slots are full, and a free one, if there is one
pub record IsMeasured (slots : Slots) (full : ℕ) (free : Option ℕ) : Type 0 where
  pub full_is : full ≡ count_by is_some slots
  pub free_is : MatchOption free (full ≡ 79) (λ slot. (slot < 79) × IsFree slots slot)

-- the page isn't one of the catalogue
abbrev pub IsUnread : Sheet → Type 0
IsUnread sheet = IsNoPage sheet ⊎ HasUnformed sheet.slots

-- what a search sees of a page
pub record Sees (p : Row → Bool) (page : PageNo) (sheet : Sheet) (s : Seen) : Type 0 where
  pub header : IsHeaderOf sheet s.head
  pub found_is : SeenIn p page sheet.slots s.found

-- how full a page is
pub record Measures (sheet : Sheet) (m : Measured) : Type 0 where
  pub header : IsHeaderOf sheet m.head
  pub slots : IsMeasured sheet.slots m.measure.full m.measure.free

-- why the names of some slots aren't listed: memory was refused, or a slot spells no row
abbrev pub IsUnlisted : Slots → Unlisted → Type 0
IsUnlisted slots Broken = HasUnformed slots
IsUnlisted slots Memory = ⊤

-- the same of a page, which may not be one of the catalogue either
abbrev pub IsNoList : Sheet → Unlisted → Type 0
IsNoList sheet Broken = IsUnread sheet
IsNoList sheet Memory = ⊤

-- the names of a page's objects stand behind those that there were
pub record ListsPage (sheet : Sheet) (old new : List (List ℕ)) (head : Header) : Type 0 where
  pub header : IsHeaderOf sheet head
  pub names : new ≡ old ++ names_of (read_rows sheet.slots)
