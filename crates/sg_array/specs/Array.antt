-- An array: what callers see of it, and how it stands in pages.
use Rattle.std.specs.Prelude.{◌≡◌, ℕ, ◌+◌, ◌-◌, ◌*◌, ◌/◌, ◌<◌, ◌≤◌, ◌⊎◌, ◌^◌, List, ◌++◌, length, slice_get, Option, Some}
use Rattle.byteorder.specs.Endian.{little_bytes}
use Rattle.sg_base.specs.Bytes.{IsBytes}
use Rattle.sg_base.specs.Page.{cell_in}
use Rattle.sg_base.specs.Sheet.{Sheet}
use Rattle.sg_space.specs.Links.{link_cell}
use Rattle.sg_space.specs.Units.{HasAt}

-- a list of items of one size. Its peak is the greatest length that it had since it was made
pub record Array : Type 0 where
  -- how many bytes an item has
  pub size : ℕ
  pub items : List (List ℕ)
  pub peak : ℕ
  -- the numbers of the index pages, and of the item pages, in the order of the items
  pub index : List ℕ
  pub leaves : List ℕ

-- how many items of this size a page holds
abbrev pub per_page : ℕ → ℕ
per_page size = 4072 / (size + 4)

-- the root's first cell: a number of 2 bytes and two of 4
abbrev pub root_cell : (size count peak : ℕ) → List ℕ
root_cell size count peak = little_bytes 2 size ++ (little_bytes 4 count ++ little_bytes 4 peak)

-- a page of kind 2, with these numbers in its first cell and the number of an index page in each later one
pub record IsRoot (size count peak : ℕ) (index : List ℕ) (sheet : Sheet) : Type 0 where
  pub kind : sheet.kind ≡ 2
  pub first : cell_in sheet.slots 0 ≡ Some (root_cell size count peak)
  pub links : (j : ℕ) → cell_in sheet.slots (j + 1) ≡ link_cell (slice_get index j)
  pub few : length sheet.slots ≤ 139

-- index page j, from 0 on: a page of kind 3 that names 509 item pages, or as many as are left
pub record IsIndex (leaves : List ℕ) (j : ℕ) (sheet : Sheet) : Type 0 where
  pub kind : sheet.kind ≡ 3
  pub cells : (e : ℕ) → e < 509 → cell_in sheet.slots e ≡ link_cell (slice_get leaves (509 * j + e))
  pub few : length sheet.slots ≤ 509

-- item page d, from 0 on: a page of kind 4 that has its part of the items. Behind the last item its slots are empty
pub record IsLeaf (size : ℕ) (items : List (List ℕ)) (d : ℕ) (sheet : Sheet) : Type 0 where
  pub kind : sheet.kind ≡ 4
  pub cells : (m : ℕ) → m < per_page size → cell_in sheet.slots m ≡ slice_get items (per_page size * d + m)
  pub few : length sheet.slots ≤ per_page size

-- they are numbers of 4 bytes, and no two are one
pub record ArePages (ps : List ℕ) : Type 0 where
  pub fit : (i p : ℕ) → slice_get ps i ≡ Some p → p < 2 ^ 32
  pub apart : (i j p : ℕ) → slice_get ps i ≡ Some p → slice_get ps j ≡ Some p → i ≡ j

-- An item has this size, and is bytes.
pub record IsItem (size : ℕ) (item : List ℕ) : Type 0 where
  pub sized : length item ≡ size
  pub bytes : IsBytes item

-- the sizes and lengths that an array may have
pub record IsInLimits (a : Array) : Type 0 where
  pub some : 1 ≤ a.size
  pub small : a.size ≤ 256
  pub each : (i : ℕ) (item : List ℕ) → slice_get a.items i ≡ Some item → IsItem a.size item
  pub below_peak : length a.items ≤ a.peak
  pub few : a.peak ≤ 1048576

-- The root names the index pages, and these name the item pages. `pages` is what each page says.
pub record NamesPages (pages : ℕ → Option Sheet) (root : ℕ) (a : Array) : Type 0 where
  pub first : HasAt pages root (IsRoot a.size (length a.items) a.peak a.index)
  pub index : (j p : ℕ) → slice_get a.index j ≡ Some p → HasAt pages p (IsIndex a.leaves j)
  pub index_pages : ArePages a.index
  pub leaf_pages : ArePages a.leaves
  pub index_least : length a.leaves ≤ 509 * length a.index

-- The array stands in this page and in those that it names, which may be more than it wants.
pub record IsBuilt (pages : ℕ → Option Sheet) (root : ℕ) (a : Array) : Type 0 where
  pub names : NamesPages pages root a
  pub leaf : (d p : ℕ) → slice_get a.leaves d ≡ Some p → HasAt pages p (IsLeaf a.size a.items d)
  pub leaf_least : a.peak ≤ per_page a.size * length a.leaves
  pub limits : IsInLimits a

-- The array stands in this page and in those that it names, which are as many as its peak wants: each but the last is
-- as full as its kind allows, at the greatest length.
pub record IsArray (pages : ℕ → Option Sheet) (root : ℕ) (a : Array) : Type 0 where
  pub built : IsBuilt pages root a
  pub index_most : 509 * length a.index < length a.leaves + 509
  pub leaf_most : per_page a.size * length a.leaves < a.peak + per_page a.size

-- the page is the array's: its root, an index page or an item page
abbrev pub Owns : (root : ℕ) (a : Array) (p : ℕ) → Type 0
Owns root a p = (p ≡ root) ⊎ (((j : ℕ) × (slice_get a.index j ≡ Some p)) ⊎ ((d : ℕ) × (slice_get a.leaves d ≡ Some p)))

-- how many these are
abbrev pub page_count : Array → ℕ
page_count a = 1 + length a.index + length a.leaves

-- a number divided, and rounded up
abbrev pub rounded_up : (n each : ℕ) → ℕ
rounded_up n each = (n + (each - 1)) / each

-- how many pages an array of items of this size with this peak has
abbrev pub pages_for : (size peak : ℕ) → ℕ
pages_for size peak = 1 + rounded_up peak (per_page size) + rounded_up (rounded_up peak (per_page size)) 509
