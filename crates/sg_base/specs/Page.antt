-- A page of 4,096 bytes that keeps cells, texts of bytes, in numbered slots.
-- First its fields (24 bytes), then its directory (4 bytes a slot), then free bytes, and then the cells up to the page's end.
use Rattle.std.specs.Prelude.{◌≡◌, ◌≢◌, ℕ, zero, suc, ◌+◌, ◌-◌, ◌*◌, ◌<◌, ◌≤◌, ◌==◌, if◌then◌else◌, List, [], ◌∷◌, ◌++◌, length, take, drop, slice_index, slice_index_or, Option, Some, None}
use Rattle.std.specs.List.{sum_by}
use Rattle.byteorder.specs.Endian.{little_number}

-- so many bytes, from a place on
unfoldable pub bytes_at : List ℕ → ℕ → ℕ → List ℕ
bytes_at page at size = take size (drop at page)

-- the number that they spell, the least byte first
unfoldable pub number_at : List ℕ → ℕ → ℕ → ℕ
number_at page at size = little_number size (bytes_at page at size)

-- the log's number of the page's last change
abbrev pub lsn_of : List ℕ → ℕ
lsn_of page = number_at page 0 8

-- what the page is used for
abbrev pub kind_of : List ℕ → ℕ
kind_of page = slice_index page 8

-- how many slots the directory has
abbrev pub count_of : List ℕ → ℕ
count_of page = number_at page 10 2

-- where the area of the cells starts, up to the page's end
abbrev pub start_of : List ℕ → ℕ
start_of page = number_at page 12 2

-- how many bytes of that area belong to no slot
abbrev pub lost_of : List ℕ → ℕ
lost_of page = number_at page 14 2

-- two numbers of other pages
abbrev pub links_of : List ℕ → ℕ × ℕ
links_of page = (number_at page 16 4, number_at page 20 4)

abbrev pub directory_end : List ℕ → ℕ
directory_end page = 24 + 4 * count_of page

-- where a slot's cell stands. A slot with 0 is empty
abbrev pub offset_at : List ℕ → ℕ → ℕ
offset_at page slot = number_at page (24 + 4 * slot) 2

-- how many bytes a slot's cell has
abbrev pub length_at : List ℕ → ℕ → ℕ
length_at page slot = number_at page (26 + 4 * slot) 2

-- the cell of a slot, where it has one
unfoldable pub slot_at : List ℕ → ℕ → Option (List ℕ)
slot_at page slot = if offset_at page slot == 0 then None else Some (bytes_at page (offset_at page slot) (length_at page slot))

-- the first slots
unfoldable pub slots_below : List ℕ → ℕ → List (Option (List ℕ))
slots_below page zero = []
slots_below page (suc n) = slots_below page n ++ (slot_at page n ∷ [])

-- the slots of a page, each with its cell or empty
abbrev pub slots_of : List ℕ → List (Option (List ℕ))
slots_of page = slots_below page (count_of page)

-- what a page says besides its slots
pub record Header : Type 0 where
  pub kind : ℕ
  pub lsn : ℕ
  pub links : ℕ × ℕ

abbrev pub header_of : List ℕ → Header
header_of page = record { kind = kind_of page; lsn = lsn_of page; links = links_of page }

-- the cell of a slot of a list. There is none in an empty slot, and none behind the last
abbrev pub cell_in : List (Option (List ℕ)) → ℕ → Option (List ℕ)
cell_in slots slot = slice_index_or slots slot None

-- how many bytes a cell has, where there is one
abbrev pub cell_size : Option (List ℕ) → ℕ
cell_size None = 0
cell_size (Some cell) = length cell

-- the bytes of all cells
abbrev pub stored : List (Option (List ℕ)) → ℕ
stored slots = sum_by cell_size slots

-- the bytes of cells and directory, which a page has 4,072 for
abbrev pub bytes_of : List (Option (List ℕ)) → ℕ
bytes_of slots = 4 * length slots + stored slots

-- how many bytes are left for cells and directory
abbrev pub room_of : List (Option (List ℕ)) → ℕ
room_of slots = 4072 - bytes_of slots

-- the slot is one of the first n, and has a cell
pub record HasCell (page : List ℕ) (n slot : ℕ) : Type 0 where
  pub below : slot < n
  pub full : 0 < offset_at page slot

-- the byte at this place is one of the slot's cell
pub record IsInCell (page : List ℕ) (slot place : ℕ) : Type 0 where
  pub from : offset_at page slot ≤ place
  pub to : place < offset_at page slot + length_at page slot

-- the slot's cell stands in the area of cells. One of no bytes may stand anywhere behind the fields
pub record IsWhole (page : List ℕ) (start slot : ℕ) : Type 0 where
  pub behind_fields : 24 ≤ offset_at page slot
  pub from : 0 < length_at page slot → start ≤ offset_at page slot
  pub to : offset_at page slot + length_at page slot ≤ 4096

-- each cell of the first n slots is whole, and no byte is in two of them
pub record AreCells (page : List ℕ) (start n : ℕ) : Type 0 where
  pub whole : (slot : ℕ) → HasCell page n slot → IsWhole page start slot
  pub apart : (slot other place : ℕ) → HasCell page n slot → HasCell page n other → slot ≢ other → IsInCell page slot place → ¬ IsInCell page other place

-- the bytes are a page of slots
pub record IsSlotted (page : List ℕ) : Type 0 where
  pub size : length page ≡ 4096
  pub unused : slice_index page 9 ≡ 0
  pub directory : directory_end page ≤ start_of page
  pub cells : AreCells page (start_of page) (count_of page)
  -- the area of cells holds the cells and the lost bytes, and nothing else
  pub filled : start_of page + (stored (slots_of page) + lost_of page) ≡ 4096
