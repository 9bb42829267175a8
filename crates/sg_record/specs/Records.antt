-- The records of a log: what each says, and its bytes.
use Rattle.std.specs.Prelude.{ℕ, ◌+◌, ◌*◌, ◌/◌, ◌^◌, ◌<◌, ⊤, List, [], ◌∷◌, ◌++◌, length}
use Rattle.byteorder.specs.Endian.{little_bytes}
use Rattle.sg_base.specs.Forms.{Form, number, text, followed, pair, mapped, counted}
use Rattle.sg_record.specs.declared.kind.Kind.{Kind}
use Rattle.sg_record.specs.declared.kind.Kind.TheVariants as kinds
use Rattle.sg_record.specs.Changes.{Change, change_kind, change_bytes, ChangeFits, write_form, rewrite_form}

-- what a record says, but for whose it is
pub data Says : Type 0 where
  Begin : Says
  Changed : Change → Says
  -- An action of the transaction has ended; the note says how it is undone. Undoing goes on at the record `undo_next`.
  TopEnd : (undo_next : ℕ) → (note : List ℕ) → Says
  -- a change of an action was taken off, by the change that is held here
  PhysComp : (undo_next : ℕ) → Change → Says
  -- all changes of an action were taken off
  TopVoid : (undo_next : ℕ) → Says
  -- an action was undone
  CompEnd : (undo_next : ℕ) → Says
  Save : (mark : ℕ) → Says
  Commit : Says
  End : Says
  -- from where on a log is read again, and the numbers and last records of the live transactions
  Checkpoint : (estimate : ℕ) → (live : List ℕ) → Says

-- Each record is of one transaction, and names that transaction's record before it (0 for its first).
-- A transaction's number is the number of its begin record's first byte in the log.
pub record Record : Type 0 where
  pub transaction : ℕ
  pub previous : ℕ
  pub says : Says

abbrev pub kind_of : Says → Kind
kind_of Begin = kinds.Begin
kind_of (Changed change) = change_kind change
kind_of (TopEnd undo_next note) = kinds.TopEnd
kind_of (PhysComp undo_next change) = kinds.PhysComp
kind_of (TopVoid undo_next) = kinds.TopVoid
kind_of (CompEnd undo_next) = kinds.CompEnd
kind_of (Save mark) = kinds.Save
kind_of Commit = kinds.Commit
kind_of End = kinds.End
kind_of (Checkpoint estimate live) = kinds.Checkpoint

-- a kind's byte
abbrev pub code_of : Kind → ℕ
code_of kinds.Begin = 1
code_of kinds.Page = 2
code_of kinds.SegWrite = 3
code_of kinds.SegOp = 4
code_of kinds.TopEnd = 5
code_of kinds.PhysComp = 6
code_of kinds.TopVoid = 7
code_of kinds.CompEnd = 8
code_of kinds.Save = 9
code_of kinds.Commit = 10
code_of kinds.End = 11
code_of kinds.Checkpoint = 12

-- a record's number and a note behind its length
abbrev pub note_form : Form (ℕ × List ℕ)
note_form = pair (number 8) (counted 2)

-- the live transactions behind their count, 16 bytes each
abbrev pub live_layout : Form (ℕ × List ℕ)
live_layout = followed (number 2) (λ count. text (16 * count))

abbrev pub live_parts : List ℕ → ℕ × List ℕ
live_parts live = (length live / 16, live)

-- a record's number, and the live transactions
abbrev pub live_form : Form (ℕ × List ℕ)
live_form = pair (number 8) (mapped (λ p. p.1) live_parts live_layout)

-- what follows the header
abbrev pub body_of : Says → List ℕ
body_of Begin = []
body_of (Changed change) = change_bytes write_form change
body_of (TopEnd undo_next note) = note_form.spell (undo_next, note)
body_of (PhysComp undo_next change) = little_bytes 8 undo_next ++ (little_bytes 1 (code_of (change_kind change)) ++ change_bytes rewrite_form change)
body_of (TopVoid undo_next) = little_bytes 8 undo_next
body_of (CompEnd undo_next) = little_bytes 8 undo_next
body_of (Save mark) = little_bytes 2 mark
body_of Commit = []
body_of End = []
body_of (Checkpoint estimate live) = live_form.spell (estimate, live)

-- the bytes of a record's header
abbrev pub HEADER : ℕ
HEADER = 21

-- the kind, the length of the whole record, the transaction and the record before
abbrev pub header : (kind size transaction previous : ℕ) → List ℕ
header kind size transaction previous = kind ∷ (little_bytes 4 size ++ (little_bytes 8 transaction ++ little_bytes 8 previous))

-- the bytes of a record
unfoldable pub spelled : Record → List ℕ
spelled r = header (code_of (kind_of r.says)) (HEADER + length (body_of r.says)) r.transaction r.previous ++ body_of r.says

-- each number has as many bytes as its field, and each text as many as its length says
abbrev pub SaysFits : Says → Type 0
SaysFits Begin = ⊤
SaysFits (Changed change) = ChangeFits write_form change
SaysFits (TopEnd undo_next note) = note_form.Fits (undo_next, note)
SaysFits (PhysComp undo_next change) = (undo_next < 2 ^ 64) × ChangeFits rewrite_form change
SaysFits (TopVoid undo_next) = undo_next < 2 ^ 64
SaysFits (CompEnd undo_next) = undo_next < 2 ^ 64
SaysFits (Save mark) = mark < 2 ^ 16
SaysFits Commit = ⊤
SaysFits End = ⊤
SaysFits (Checkpoint estimate live) = live_form.Fits (estimate, live)
