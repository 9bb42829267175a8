-- Which bytes each call leaves of a page, as functions of the page before.
use Rattle.std.specs.Prelude.{ℕ, zero, suc, ◌+◌, ◌-◌, ◌*◌, ◌==◌, nat_lt, if◌then◌else◌, List, length, slice_set, Option, Some, None}
use Rattle.byteorder.specs.Endian.{little_bytes}
use Rattle.sg_base.specs.Overwritten.{overwritten}
use Rattle.sg_base.specs.Page.{count_of, start_of, lost_of, offset_at, length_at, directory_end, slots_of, cell_in}

-- the page with a number in the 2 bytes there
abbrev pub with_u16 : List ℕ → ℕ → ℕ → List ℕ
with_u16 page at number = overwritten page at (little_bytes 2 number)

-- one more slot, an empty one
unfoldable pub grown : List ℕ → List ℕ
grown page = with_u16 (with_u16 page (24 + 4 * count_of page) 0) 10 (count_of page + 1)

-- a cell in an empty slot, in front of all others
unfoldable pub filled : List ℕ → ℕ → List ℕ → List ℕ
filled page slot cell =
    let top = start_of page - length cell in
    with_u16 (with_u16 (with_u16 (overwritten page top cell) 12 top) (24 + 4 * slot) top) (26 + 4 * slot) (length cell)

-- no cell in a full slot, and its bytes are lost
unfoldable pub cleared : List ℕ → ℕ → List ℕ
cleared page slot = with_u16 (with_u16 page 14 (lost_of page + length_at page slot)) (24 + 4 * slot) 0

-- no slots
unfoldable pub emptied : List ℕ → List ℕ
emptied page = with_u16 (with_u16 (with_u16 (slice_set page 9 0) 10 0) 12 4096) 14 0

-- a cell in a slot, where there is one
abbrev pub filled_with : List ℕ → ℕ → Option (List ℕ) → List ℕ
filled_with page slot None = page
filled_with page slot (Some cell) = filled page slot cell

-- the first n slots of a list, one after the other
unfoldable pub rebuilt : List ℕ → List (Option (List ℕ)) → ℕ → List ℕ
rebuilt page slots zero = page
rebuilt page slots (suc n) = filled_with (grown (rebuilt page slots n)) n (cell_in slots n)

-- the same slots with no lost byte
unfoldable pub compacted : List ℕ → List ℕ
compacted page = rebuilt (emptied page) (slots_of page) (length (slots_of page))

-- all free bytes in one place, where there are too few in front of the cells
unfoldable pub roomy : List ℕ → ℕ → List ℕ
roomy page need = if nat_lt (start_of page) (directory_end page + need) then compacted page else page

-- a cell in an empty slot, and in a new one behind the last
unfoldable pub store_layout : List ℕ → ℕ → List ℕ → List ℕ
store_layout page slot cell = filled (roomy page (length cell)) slot cell

unfoldable pub push_layout : List ℕ → List ℕ → List ℕ
push_layout page cell = let ready = roomy page (4 + length cell) in filled (grown ready) (length (slots_of ready)) cell

-- THE CALLS: what each leaves where it isn't refused
unfoldable pub lsn_layout : List ℕ → ℕ → List ℕ
lsn_layout page lsn = overwritten page 0 (little_bytes 8 lsn)

unfoldable pub links_layout : List ℕ → ℕ → ℕ → List ℕ
links_layout page a b = overwritten (overwritten page 16 (little_bytes 4 a)) 20 (little_bytes 4 b)

unfoldable pub format_layout : List ℕ → ℕ → List ℕ
format_layout page kind = links_layout (slice_set (emptied page) 8 kind) 0 0

unfoldable pub put_layout : List ℕ → ℕ → List ℕ → List ℕ
put_layout page slot cell = if nat_lt slot (length (slots_of page)) then store_layout page slot cell else push_layout page cell

abbrev pub remove_layout : List ℕ → ℕ → List ℕ
remove_layout page slot = cleared page slot

-- a cell of as many bytes takes the old one's place
unfoldable pub set_layout : List ℕ → ℕ → List ℕ → List ℕ
set_layout page slot cell = if length cell == length_at page slot then overwritten page (offset_at page slot) cell else store_layout (cleared page slot) slot cell
