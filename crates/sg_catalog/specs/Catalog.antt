-- THE CATALOGUE: what callers see of it, and how it stands in pages.
use Rattle.std.specs.Prelude.{◌≡◌, ℕ, ◌+◌, ◌-◌, ◌*◌, ◌/◌, ◌<◌, ◌≤◌, ◌^◌, ◌==◌, ◌&&◌, Bool, false, List, length, slice_get, slice_index, slice_index_or, Option, Some, None, is_some, is_none, option_map}
use Rattle.std.specs.List.{find, filter, filter_map, count_by}
use Rattle.std.specs.Str.{bytes_eq}
use Rattle.sg_base.specs.Page.{cell_in}
use Rattle.sg_base.specs.Sheet.{Sheet}
use Rattle.sg_base.specs.declared.numbers.TxnId.{TxnId}
use Rattle.sg_space.specs.Units.{HasAt}
use Rattle.sg_catalog.specs.Row.{row_cell, IsFormed}
use Rattle.sg_catalog.specs.declared.row.Row.{Row}

pub record Catalog : Type 0 where
  -- its rows by place, 79 places to a page. A place may be free
  pub places : List (Option Row)
  -- the most rows that it had
  pub peak : ℕ
  -- the numbers of its pages
  pub pages : List ℕ

-- the rows at some places, in their order
abbrev pub filled : List (Option Row) → List Row
filled places = filter_map (λ place. place) places

-- THE ROWS, in the order of their places: what the catalogue means
abbrev pub rows : Catalog → List Row
rows c = filled c.places

-- the row at a place, if there is one
abbrev pub row_at : List (Option Row) → ℕ → Option Row
row_at places i = slice_index_or places i None

-- the row is an object of this name
abbrev pub is_there : List ℕ → Row → Bool
is_there name row = is_none row.dropper && bytes_eq row.name name

-- the row is a tombstone
abbrev pub is_tomb : Row → Bool
is_tomb row = is_some row.dropper

abbrev pub is_by : Option TxnId → TxnId → Bool
is_by None by = false
is_by (Some dropper) by = dropper.0 == by.0

-- the row is a tombstone of this dropper, or of anybody
abbrev pub is_buried : Option TxnId → Row → Bool
is_buried None row = is_tomb row
is_buried (Some by) row = is_by row.dropper by

-- the row is a tombstone of an object that was reached from this page
abbrev pub is_tomb_at : ℕ → Row → Bool
is_tomb_at root row = is_tomb row && row.root.0 == root

-- the same, under this name
abbrev pub is_tomb_of : List ℕ → ℕ → Row → Bool
is_tomb_of name root row = is_tomb_at root row && bytes_eq row.name name

-- page j: its link leads to `next`, and its slot k has the row at place 79 * j + k
pub record IsPage (next : ℕ) (places : List (Option Row)) (j : ℕ) (sheet : Sheet) : Type 0 where
  pub kind : sheet.kind ≡ 1
  pub link : sheet.links.0 ≡ next
  pub few : length sheet.slots ≤ 79
  pub cells : (k : ℕ) → k < 79 → cell_in sheet.slots k ≡ option_map row_cell (row_at places (79 * j + k))

-- the first link of page 0 aside, its second says the peak
pub record SaysPeak (peak : ℕ) (sheet : Sheet) : Type 0 where
  pub says : sheet.links.1 ≡ peak

-- The pages say this. `pages` is what each page says. The link of the last page is 0.
pub record IsRaw (pages : ℕ → Option Sheet) (c : Catalog) : Type 0 where
  pub first : slice_get c.pages 0 ≡ Some 0
  pub page : (j p : ℕ) → slice_get c.pages j ≡ Some p → HasAt pages p (IsPage (slice_index c.pages (j + 1)) c.places j)
  pub says_peak : HasAt pages 0 (SaysPeak c.peak)
  -- the pages have numbers of 4 bytes, and no two are one
  pub fit : (j p : ℕ) → slice_get c.pages j ≡ Some p → p < 2 ^ 32
  pub apart : (i j p : ℕ) → slice_get c.pages i ≡ Some p → slice_get c.pages j ≡ Some p → i ≡ j
  pub long : length c.places ≡ 79 * length c.pages
  pub formed : (i : ℕ) (row : Row) → row_at c.places i ≡ Some row → IsFormed row

-- A CATALOGUE: at most one row of each name is there, and there are as many pages as the most rows want that it had
pub record IsCatalog (pages : ℕ → Option Sheet) (c : Catalog) : Type 0 where
  pub raw : IsRaw pages c
  pub once : (name : List ℕ) → count_by (is_there name) (rows c) ≤ 1
  pub below_peak : length (rows c) ≤ c.peak
  pub exactly : length c.pages ≡ 1 + (c.peak - 1) / 79

-- the page is one of the catalogue's
abbrev pub Owns : Catalog → ℕ → Type 0
Owns c p = (j : ℕ) × (slice_get c.pages j ≡ Some p)

-- THE MAP OF NAMES: the row that is there under a name
abbrev pub there : List ℕ → List Row → Option Row
there name rows = find (is_there name) rows

-- the first tombstone of this dropper, or of anybody
abbrev pub buried : Option TxnId → List Row → Option Row
buried by rows = find (is_buried by) rows

-- THE TOMBSTONES, in the order of their places
abbrev pub tombs : List Row → List Row
tombs rows = filter is_tomb rows
