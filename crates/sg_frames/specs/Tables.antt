-- How a table lends the bytes of one of its slots, and all slots.
use Rattle.std.specs.Prelude.{◌≡◌, ℕ, List, [], length, slice_index_or}
use Rattle.std.specs.Borrow.{Lends, MutBor, Fml, Array, u8}
use Rattle.std.specs.List.{refill}
use Rattle.sg_frames.specs.Pieces.{Piece, Pieces, rewritten, with_entry, lying}
use Rattle.sg_frames.specs.Slots.{slot_row}
pub use Rattle.sg_frames.specs.contracts.table.Table.{the_row as table_row}

-- the table ends with the last bytes behind the slice at place i
abbrev pub LendsEntry : MutBor Pieces → ℕ → MutBor (List ℕ) → Fml
LendsEntry table i slice = Lends table_row (Array u8 0) table slice (λ bytes. with_entry table.now i (rewritten (slice_index_or table.now.bytes i []) bytes))

-- the table with the slots set, as far as there are so many
abbrev pub with_slots : Pieces → List Piece → Pieces
with_slots pieces slots = record pieces { bytes = refill (length pieces.bytes) pieces.bytes (lying pieces.spots slots) }

abbrev pub LendsSlots : MutBor Pieces → MutBor (List Piece) → Fml
LendsSlots table slots = Lends table_row (Array slot_row 0) table slots (with_slots table.now)

-- these are the table's slots
pub record ShowsSlots (pieces : Pieces) (slots : List Piece) : Type 0 where
  pub many : length slots ≡ length pieces.spots
  pub bytes : lying pieces.spots slots ≡ pieces.bytes
