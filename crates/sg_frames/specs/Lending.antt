-- How a frame, a window and the bytes of a loan are lent.
use Rattle.std.specs.Prelude.{ℕ, List}
use Rattle.std.specs.Borrow.{Lends, LendsBoth, MutBor, Fml, Array, u8}
use Rattle.sg_frames.specs.declared.place.Place.{Place}
use Rattle.sg_frames.specs.declared.place.Place.TheVariants.{Page}
use Rattle.sg_frames.specs.Pieces.{Piece, Pieces, rewritten}
use Rattle.sg_frames.specs.Slots.{slot_row}
use Rattle.sg_frames.specs.Tables.{with_slots}
use Rattle.sg_frames.specs.Held.{Held, Lent, bytes_at, with_bytes}
use Rattle.sg_frames.specs.contracts.loan.Loan.{the_row as loan_row}
use Rattle.sg_frames.specs.contracts.frames.Frames.{the_row as frames_row}

-- the loan ends with the last bytes behind the slice
abbrev pub LendsLoan : MutBor Lent → MutBor (List ℕ) → Fml
LendsLoan loan slice = Lends loan_row (Array u8 0) loan slice (λ bytes. record loan.now { bytes = rewritten loan.now.bytes bytes })

-- the frames end with the last bytes behind the slice at that place
abbrev pub LendsPlace : MutBor Held → Place → MutBor (List ℕ) → Fml
LendsPlace held place slice = Lends frames_row (Array u8 0) held slice (λ bytes. with_bytes held.now place (rewritten (bytes_at held.now place) bytes))

-- the frames with the last bytes behind each of two slices at its page frame
abbrev pub with_pair : Held → ℕ → ℕ → List ℕ → List ℕ → Held
with_pair held i j first second =
    with_bytes (with_bytes held (Page i) (rewritten (bytes_at held (Page i)) first)) (Page j) (rewritten (bytes_at held (Page j)) second)

abbrev pub LendsTwo : MutBor Held → ℕ → ℕ → MutBor (List ℕ) × MutBor (List ℕ) → Fml
LendsTwo held i j slices = LendsBoth frames_row (Array u8 0) (Array u8 0) held slices (with_pair held.now i j)

-- the page frames as a table
abbrev pub pages_of : Held → Pieces
pages_of held = record { spots = held.block.pages; bytes = held.pages }

abbrev pub with_pages : Held → Pieces → Held
with_pages held pages = record held { block = record held.block { pages = pages.spots }; pages = pages.bytes }

-- the frames end with the last slots of page frames
abbrev pub LendsPages : MutBor Held → MutBor (List Piece) → Fml
LendsPages held slots = Lends frames_row (Array slot_row 0) held slots (λ now. with_pages held.now (with_slots (pages_of held.now) now))
