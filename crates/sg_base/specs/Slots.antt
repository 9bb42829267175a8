-- What the changes of a page do to the list of its slots, and where they are refused.
use Rattle.std.specs.Prelude.{◌≡◌, ℕ, ◌≤◌, ◌==◌, ◌&&◌, nat_le, if◌then◌else◌, List, [], ◌∷◌, ◌++◌, length, slice_set, Bool, Option, Some, None, is_some, is_none}
use Rattle.sg_base.specs.Page.{cell_in, bytes_of}

-- each slot with its cell, or empty
abbrev pub Slots : Type 0
Slots = List (Option (List ℕ))

-- a cell may be put there: the slot is empty, or the next one behind the last
pub record IsFree (slots : Slots) (slot : ℕ) : Type 0 where
  pub next : slot ≤ length slots
  pub empty : cell_in slots slot ≡ None

-- the same as a test
abbrev pub is_free : Slots → ℕ → Bool
is_free slots slot = nat_le slot (length slots) && is_none (cell_in slots slot)

-- the bytes of a cell, where there is one
abbrev pub cell_bytes : Option (List ℕ) → List ℕ
cell_bytes None = []
cell_bytes (Some cell) = cell

-- the slots with a cell put there
abbrev pub with_cell : Slots → ℕ → List ℕ → Slots
with_cell slots slot cell = if slot == length slots then slots ++ (Some cell ∷ []) else slice_set slots slot (Some cell)

-- the slots, where a page has the bytes for them and their directory
abbrev pub where_room : Slots → Option Slots
where_room slots = if nat_le (bytes_of slots) 4072 then Some slots else None

-- the slots with a new cell in an empty slot or in the next one. It is refused where the slot isn't free or there isn't the room
abbrev pub put_in : Slots → ℕ → List ℕ → Option Slots
put_in slots slot cell = if is_free slots slot then where_room (with_cell slots slot cell) else None

-- the slots with another cell in a full slot. It is refused where the slot isn't full or there isn't the room
abbrev pub set_in : Slots → ℕ → List ℕ → Option Slots
set_in slots slot cell = if is_some (cell_in slots slot) then where_room (slice_set slots slot (Some cell)) else None

-- the slots without the cell of a full slot. It is refused where the slot isn't full
abbrev pub remove_in : Slots → ℕ → Option Slots
remove_in slots slot = if is_some (cell_in slots slot) then Some (slice_set slots slot None) else None
