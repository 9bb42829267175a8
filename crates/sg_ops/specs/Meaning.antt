-- What an operation means, and the laws that it keeps.
use Rattle.std.specs.Prelude.{◌≡◌, ℕ, ◌<◌, List, Bool, IsTrue, length}
use Rattle.sg_base.specs.Bytes.{IsBytes}
use Rattle.sg_ops.specs.declared.TheConstants.{RANGE_LIMIT}

-- a record operation: its code, which items and arguments it accepts, what it leaves of an item,
-- and what its undo leaves of one
pub record RecordMeaning : Type 0 where
  pub code : ℕ
  pub accepts : List ℕ → List ℕ → Bool
  pub after : List ℕ → List ℕ → List ℕ
  pub before : List ℕ → List ℕ → List ℕ

-- The undo law. The undo of what the operation left, with the same argument, is the item that stood
-- there. The operation and its undo keep an item's length, and what they leave are bytes.
pub record IsUndoable (m : RecordMeaning) : Type 0 where
  pub undoes : (item arg : List ℕ) → IsBytes item → IsBytes arg → IsTrue (m.accepts item arg) → m.before (m.after item arg) arg ≡ item
  pub keeps_length : (item arg : List ℕ) → IsBytes item → IsBytes arg → IsTrue (m.accepts item arg) → length (m.after item arg) ≡ length item
  pub leaves_bytes : (item arg : List ℕ) → IsBytes item → IsBytes arg → IsTrue (m.accepts item arg) → IsBytes (m.after item arg)
  pub undo_keeps_length : (item arg : List ℕ) → IsBytes item → IsBytes arg → length (m.before item arg) ≡ length item
  pub undo_leaves_bytes : (item arg : List ℕ) → IsBytes item → IsBytes arg → IsBytes (m.before item arg)

-- a range operation: its code, and the byte that an argument gives at a position
pub record RangeMeaning : Type 0 where
  pub code : ℕ
  pub byte : List ℕ → ℕ → ℕ

-- at each position of a range an argument gives a byte
abbrev pub GivesBytes : RangeMeaning → Type 0
GivesBytes m = (arg : List ℕ) (position : ℕ) → IsBytes arg → position < RANGE_LIMIT → m.byte arg position < 256
