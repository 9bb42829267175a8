-- Where the list of slots may be changed.
use Rattle.std.proofs.Common.{◌≡◌, ◌≢◌, ℕ, ◌+◌, ◌<◌, ◌≤◌, ◌==◌, nat_le, true, false, List, length, set, Some, None, refl, sym, ap, ◌∙◌, arith}
use Rattle.std.proofs.lemmas.Bool.Decides.{nat_tests}
use Rattle.sg_base.specs.Page.{slots_of, cell_in, cell_size, bytes_of, length_at, IsSlotted}
use Rattle.sg_base.specs.Slots.{Slots, is_free, where_room, put_in, set_in}
use Rattle.sg_slotted.proofs.Room.{bytes_fit, bytes_of-set, bytes_with}
use Rattle.sg_slotted.proofs.Changes.{has_cell, size_is}

room : (slots : Slots) → bytes_of slots ≤ 4072 → where_room slots ≡ Some slots
room slots fits = let t : nat_le (bytes_of slots) 4072 ≡ true = grind (arith, nat_tests, fits) in rw t refl

free : (slots : Slots) (slot : ℕ) → slot < length slots → cell_in slots slot ≡ None → is_free slots slot ≡ true
free slots slot below empty = let t : nat_le slot (length slots) ≡ true = grind (arith, nat_tests, below) in rw (t, empty) refl

-- a cell fits an empty slot where the room is its size
pub put_fits : (slots new : Slots) (slot : ℕ) (cell : List ℕ) → slot < length slots → cell_in slots slot ≡ None → bytes_of slots + length cell ≤ 4072 → new ≡ set slots slot (Some cell) → put_in slots slot cell ≡ Some new
put_fits slots new slot cell below empty fits is =
    let is_free : is_free slots slot ≡ true = free slots slot below empty in
    let other : (slot == length slots) ≡ false = grind (arith, nat_tests, below) in
    let sums : bytes_of (set slots slot (Some cell)) + cell_size (cell_in slots slot) ≡ bytes_of slots + length cell = bytes_of-set slots slot (Some cell) below in
    let has : where_room (set slots slot (Some cell)) ≡ Some (set slots slot (Some cell)) = room (set slots slot (Some cell)) (omega arith) in
    rw (is_free, other) (has ∙ ap (λ (s : Slots). Some s) (sym is))

pub set_fits : (slots new : Slots) (slot : ℕ) (old cell : List ℕ) → Some old ≡ cell_in slots slot → bytes_of slots + length cell ≤ 4072 + length old → new ≡ set slots slot (Some cell) → set_in slots slot cell ≡ Some new
set_fits slots new slot old cell was fits is =
    let sums : bytes_of (set slots slot (Some cell)) + length old ≡ bytes_of slots + length cell = bytes_with slots slot old cell was in
    let has : where_room (set slots slot (Some cell)) ≡ Some (set slots slot (Some cell)) = room (set slots slot (Some cell)) (omega arith) in
    rw (sym was) (has ∙ ap (λ (s : Slots). Some s) (sym is))

-- A CELL OF AS MANY BYTES ALWAYS FITS
pub same_size_fits : (page : List ℕ) (slot : ℕ) (old cell : List ℕ) → IsSlotted page → Some old ≡ cell_in (slots_of page) slot → length cell ≡ length old → set_in (slots_of page) slot cell ≡ Some (set (slots_of page) slot (Some cell))
same_size_fits page slot old cell g was same =
    let most : bytes_of (slots_of page) ≤ 4072 = bytes_fit page g in
    set_fits (slots_of page) (set (slots_of page) slot (Some cell)) slot old cell was (omega arith) refl

-- how many bytes the entry of a full slot says
pub length_at_is : (page : List ℕ) (slot : ℕ) (old : List ℕ) → IsSlotted page → Some old ≡ cell_in (slots_of page) slot → length old ≡ length_at page slot
length_at_is page slot old g was =
    let full : cell_in (slots_of page) slot ≢ None = λ none. (let e : Some old ≡ None = was ∙ none in cc) in
    ap cell_size was ∙ size_is page slot g (has_cell page slot full)
