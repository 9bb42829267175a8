-- What the steps of a call on the catalogue want and do. Between them there may be more rows than the peak says.
use Rattle.std.specs.Prelude.{◌≡◌, ◌≢◌, ℕ, ◌+◌, ◌-◌, ◌*◌, ◌<◌, ◌≤◌, Bool, List, ◌++◌, ◌∷◌, [], take, drop, replicate, length, slice_get, slice_index, slice_set, Option, Some, None, MatchOption}
use Rattle.std.specs.List.{find}
use Rattle.sg_base.specs.Sheet.{Sheet}
use Rattle.sg_base.specs.Slots.{IsFree}
use Rattle.sg_base.specs.declared.numbers.PageNo.{PageNo}
use Rattle.sg_space.specs.Owned.{Grows}
use Rattle.sg_space.specs.Units.{HasAt, IsChanged}
use Rattle.sg_space.specs.View.{View, Space, Keeps, MayFill}
use Rattle.sg_catalog.specs.Look.{names_of}
use Rattle.sg_catalog.specs.Catalog.{Catalog, IsRaw, Owns, row_at, filled, rows}
use Rattle.sg_catalog.specs.declared.look.Header.{Header}
use Rattle.sg_catalog.specs.declared.look.Measure.{Measure}
use Rattle.sg_catalog.specs.declared.look.Measured.{Measured}
use Rattle.sg_catalog.specs.declared.look.Seen.{Seen}
use Rattle.sg_catalog.specs.declared.look.Spot.{Spot}
use Rattle.sg_catalog.specs.declared.look.Found.{Found}
use Rattle.sg_catalog.specs.declared.row.Row.{Row}
use Rattle.sg_catalog.specs.declared.walk.Survey.{Survey}

-- pages are there that say what a catalogue's do, and it has this property
abbrev pub HasRaw : View → (Catalog → Type 0) → Type 0
HasRaw v P = v.Told → (c : Catalog) × IsRaw v.space.pages.at c × P c

-- where the space shows such pages, what they say has this property
abbrev pub IfRaw : View → (Catalog → Type 0) → Type 0
IfRaw v P = v.Shows → (c : Catalog) → IsRaw v.space.pages.at c → P c

-- where the space shows such pages, and this one is page j of them, they have this property
abbrev pub IfPage : View → ℕ → (Catalog → ℕ → Type 0) → Type 0
IfPage v p P = v.Shows → (c : Catalog) (j : ℕ) → IsRaw v.space.pages.at c → slice_get c.pages j ≡ Some p → P c j

-- what page j says beside its rows
pub record IsHeader (c : Catalog) (j : ℕ) (head : Header) : Type 0 where
  pub next : head.next.0 ≡ slice_index c.pages (j + 1)
  pub peak : j ≡ 0 → head.peak ≡ c.peak

-- the slot of this page is place i
pub record IsSpot (c : Catalog) (i : ℕ) (spot : Spot) : Type 0 where
  pub index : ℕ
  pub page : slice_get c.pages index ≡ Some spot.page.0
  pub below : spot.slot < 79
  pub is : i ≡ 79 * index + spot.slot

-- the places of page j
abbrev pub part : ℕ → List (Option Row) → List (Option Row)
part j places = take 79 (drop (79 * j) places)

-- the row stands there, and is the first of page j that passes the test
pub record IsFoundIn (p : Row → Bool) (c : Catalog) (j : ℕ) (f : Found) : Type 0 where
  pub page : slice_get c.pages j ≡ Some f.spot.page.0
  pub below : f.spot.slot < 79
  pub row : row_at c.places (79 * j + f.spot.slot) ≡ Some f.row
  pub first : find p (filled (part j c.places)) ≡ Some f.row

-- what a search sees of page j
pub record SeesPage (p : Row → Bool) (c : Catalog) (j : ℕ) (s : Seen) : Type 0 where
  pub header : IsHeader c j s.head
  pub found : MatchOption s.found (find p (filled (part j c.places)) ≡ None) (IsFoundIn p c j)

-- how many rows page j has, and a free place of it, if there is one
pub record MeasuresPage (pages : ℕ → Option Sheet) (c : Catalog) (j : ℕ) (m : Measured) : Type 0 where
  pub header : IsHeader c j m.head
  pub full : m.measure.full ≡ length (filled (part j c.places))
  pub free : MatchOption m.measure.free (m.measure.full ≡ 79)
      (λ slot. (slot < 79) × (row_at c.places (79 * j + slot) ≡ None) × ((p : ℕ) → slice_get c.pages j ≡ Some p → HasAt pages p (λ sheet. IsFree sheet.slots slot)))

-- the row stands there, and is the first of all that passes the test
pub record IsFound (p : Row → Bool) (c : Catalog) (f : Found) : Type 0 where
  pub place : ℕ
  pub is_place : IsSpot c place f.spot
  pub row : row_at c.places place ≡ Some f.row
  pub first : find p (rows c) ≡ Some f.row

-- WHAT A SEARCH FINDS: the first row that passes the test, and nothing exactly where none does
abbrev pub Searched : (Row → Bool) → Catalog → Option Found → Type 0
Searched p c found = MatchOption found (find p (rows c) ≡ None) (IsFound p c)

-- the names of page j's objects stand behind those that there were
pub record GathersPage (c : Catalog) (j : ℕ) (old new : List (List ℕ)) (head : Header) : Type 0 where
  pub header : IsHeader c j head
  pub names : new ≡ old ++ names_of (filled (part j c.places))

-- a place that is free, and its slot may be filled
pub record IsFreeSpot (pages : ℕ → Option Sheet) (c : Catalog) (spot : Spot) : Type 0 where
  pub place : ℕ
  pub is_place : IsSpot c place spot
  pub free : row_at c.places place ≡ None
  pub slot_free : HasAt pages spot.page.0 (λ sheet. IsFree sheet.slots spot.slot)

-- how full the first j pages are
pub record SurveyedTo (pages : ℕ → Option Sheet) (c : Catalog) (j : ℕ) (s : Survey) : Type 0 where
  pub count : s.rows ≡ length (filled (take (79 * j) c.places))
  pub most : s.rows ≤ 79 * j
  pub peak : s.peak ≡ c.peak
  pub last : (i : ℕ) → i + 1 ≡ j → slice_get c.pages i ≡ Some s.last.0
  pub free : MatchOption s.free (s.rows ≡ 79 * j) (IsFreeSpot pages c)

-- HOW FULL A CATALOGUE IS: it has no free place exactly where each page has 79 rows
pub record Surveyed (pages : ℕ → Option Sheet) (c : Catalog) (s : Survey) : Type 0 where
  pub count : s.rows ≡ length (rows c)
  pub peak : s.peak ≡ c.peak
  pub last : slice_get c.pages (length c.pages - 1) ≡ Some s.last.0
  pub free : MatchOption s.free (s.rows ≡ 79 * length c.pages) (IsFreeSpot pages c)

-- the free place that was known, or else that of one more page
abbrev pub free_on : Option Spot → PageNo → Option ℕ → Option Spot
free_on (Some spot) page slot = Some spot
free_on None page None = None
free_on None page (Some slot) = Some (record { page = page; slot = slot })

-- a survey of one page more
pub record IsSurveyedOn (s : Survey) (page : PageNo) (m : Measure) (s' : Survey) : Type 0 where
  pub count : s'.rows ≡ s.rows + m.full
  pub peak : s'.peak ≡ s.peak
  pub last : s'.last ≡ page
  pub free : s'.free ≡ free_on s.free page m.free

-- The pages say something else now. They are those from before and some that were free; no other page and no band has changed.
pub record RawTurns (old new : Space) (c c' : Catalog) : Type 0 where
  pub raw : IsRaw new.pages.at c'
  pub pages : Grows old.pages new.pages (Owns c) (Owns c') (length c.pages) (length c'.pages)
  pub bands : new.bands ≡ old.bands

-- a place with another row, or without one
abbrev pub with_place : ℕ → Option Row → Catalog → Catalog
with_place i row c = record c { places = slice_set c.places i row }

-- a call wants a place of the catalogue, and it has this property
abbrev pub HasPlace : View → (Catalog → ℕ → Type 0) → Type 0
HasPlace v Can = v.Told → (c : Catalog) × IsRaw v.space.pages.at c × (i : ℕ) × Can c i

-- what a call makes of each place of which it could be asked
pub record SetsPlace (v w : View) (Can : Catalog → ℕ → Type 0) (row : Option Row) : Type 0 where
  pub turns : v.Told → (c : Catalog) (i : ℕ) → IsRaw v.space.pages.at c → Can c i → RawTurns v.space w.space c (with_place i row c)

-- a row stands there
pub record HasRow (spot : Spot) (c : Catalog) (i : ℕ) : Type 0 where
  pub is_place : IsSpot c i spot
  pub was : Row
  pub row : row_at c.places i ≡ Some was

-- a row of a name of so many bytes stands there
pub record HasRowOf (spot : Spot) (size : ℕ) (c : Catalog) (i : ℕ) : Type 0 where
  pub has : HasRow spot c i
  pub long : length has.was.name ≡ size

-- A row may be put there: the place is free, and its slot is open or the next one behind the last. The open action may open it.
pub record CanPut (v : View) (spot : Spot) (c : Catalog) (i : ℕ) : Type 0 where
  pub is_place : IsSpot c i spot
  pub free : row_at c.places i ≡ None
  pub slot_free : HasAt v.space.pages.at spot.page.0 (λ sheet. IsFree sheet.slots spot.slot)
  pub may_fill : MayFill v spot.page.0 79

-- What a caller may rely on from one call to the next, where one page may have shrunk
pub record KeepsBut (v w : View) (p : ℕ) : Type 0 where
  pub told : v.Told → w.Told
  pub may_take : v.MayTake → w.MayTake
  pub may_have : (page slots : ℕ) → page ≢ p → v.MayHave page slots → w.MayHave page slots

-- a page has other links
pub record Relinks (v w : View) (p : ℕ) (links : ℕ × ℕ → ℕ × ℕ) : Type 0 where
  pub keeps : v.Told → Keeps v w
  pub pages : v.Told → IsChanged v.space.pages w.space.pages p (λ sheet. Some (record sheet { links = links sheet.links }))
  pub bands : v.Told → w.space.bands ≡ v.space.bands

-- another page behind the last one, with one row
abbrev pub with_page : ℕ → Row → Catalog → Catalog
with_page p row c = record c { places = c.places ++ (Some row ∷ replicate 78 None); pages = c.pages ++ (p ∷ []) }
