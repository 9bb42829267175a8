-- Whether some bytes are a page of slots, as a test, and the page that was never written.
use Rattle.std.specs.Prelude.{ℕ, zero, suc, ◌+◌, ◌==◌, ◌&&◌, ◌||◌, nat_le, Bool, true, List, length, slice_index, replicate}
use Rattle.sg_base.specs.Page.{count_of, start_of, lost_of, directory_end, offset_at, length_at, slots_of, stored}

-- a cell of so many bytes there stands in the area of cells, or has none and stands behind the fields
abbrev pub stands_whole : ℕ → ℕ → ℕ → Bool
stands_whole start offset size = nat_le 24 offset && (size == 0 || nat_le start offset) && nat_le (offset + size) 4096

-- two ranges, each from a place on and of so many bytes, share none
abbrev pub share_none : ℕ → ℕ → ℕ → ℕ → Bool
share_none at size other more = size == 0 || more == 0 || nat_le (at + size) other || nat_le (other + more) at

-- the slot's cell shares no byte with one of the first n slots
unfoldable pub is_apart : List ℕ → ℕ → ℕ → Bool
is_apart page slot zero = true
is_apart page slot (suc n) = is_apart page slot n && (offset_at page n == 0 || share_none (offset_at page slot) (length_at page slot) (offset_at page n) (length_at page n))

-- each cell of the first n slots is whole, and no byte is in two of them
unfoldable pub are_cells : List ℕ → ℕ → ℕ → Bool
are_cells page start zero = true
are_cells page start (suc n) = are_cells page start n && (offset_at page n == 0 || (stands_whole start (offset_at page n) (length_at page n) && is_apart page n n))

-- THE TEST: the bytes are a page of slots
unfoldable pub is_slotted : List ℕ → Bool
is_slotted page =
    length page == 4096 && slice_index page 9 == 0 && nat_le (directory_end page) (start_of page)
    && are_cells page (start_of page) (count_of page) && start_of page + (stored (slots_of page) + lost_of page) == 4096

-- a page that was never written
unfoldable pub blank_page : List ℕ
blank_page = replicate 4096 0
