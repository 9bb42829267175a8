-- How the memory of one slot is lent, and that of two.
use Rattle.std.specs.Prelude.{ℕ, List, slice_set}
use Rattle.std.specs.Borrow.{Lends, MutBor, Fml, Array, u8}
use Rattle.sg_frames.specs.Pieces.{Piece, rewritten}
pub use Rattle.sg_frames.specs.contracts.slot.Slot.{the_row as slot_row}

-- the piece with new bytes in place of its own
abbrev pub with_new : Piece → List ℕ → Piece
with_new piece bytes = record piece { bytes = rewritten piece.bytes bytes }

-- the slot ends with the last bytes behind the slice
abbrev pub LendsSlot : MutBor Piece → MutBor (List ℕ) → Fml
LendsSlot slot slice = Lends slot_row (Array u8 0) slot slice (with_new slot.now)

-- the slots with two of them set
abbrev pub with_two : List Piece → ℕ → ℕ → Piece → Piece → List Piece
with_two slots i j first second = slice_set (slice_set slots i first) j second
