-- What holds of the table of every `Ops`.
use Rattle.std.specs.Prelude.{◌≡◌, ℕ, ◌≤◌, List, Option, Some, None, IfSome, IsTrue, length}
use Rattle.sg_base.specs.Bytes.{IsBytes}
use Rattle.sg_ops.specs.Meaning.{RecordMeaning, IsUndoable, GivesBytes}
use Rattle.sg_ops.specs.Shipped.{fill_meaning}
use Rattle.sg_ops.specs.Table.{Table, record_at, range_at, accepts_of, after_of, before_of}
use Rattle.sg_ops.specs.declared.TheConstants.{OPS_LIMIT}

-- each registered operation keeps its law, `fill` is there, and at most 64 of a sort are registered
pub record IsLawful (t : Table) : Type 0 where
  pub undoable : (code : ℕ) → IfSome (record_at t code) IsUndoable
  pub gives_bytes : (code : ℕ) → IfSome (range_at t code) GivesBytes
  pub has_fill : range_at t 1 ≡ Some fill_meaning
  pub few_records : length t.records ≤ OPS_LIMIT
  pub few_ranges : length t.ranges ≤ OPS_LIMIT

-- the undo law of an operation that may not be there
pub undone : (op : Option RecordMeaning) (item arg : List ℕ) → IfSome op IsUndoable → IsBytes item → IsBytes arg → IsTrue (accepts_of op item arg) → before_of op (after_of op item arg) arg ≡ item
unfolding accepts_of after_of before_of
undone None item arg law in_item in_arg accepted = absurd (cc)
undone (Some m) item arg law in_item in_arg accepted = law.undoes item arg in_item in_arg accepted

-- the same by code: the undo of what an operation left, with the same argument, is the item that stood there
pub law_of : (t : Table) (code : ℕ) (item arg : List ℕ) → IsLawful t → IsBytes item → IsBytes arg → IsTrue (accepts_of (record_at t code) item arg) → before_of (record_at t code) (after_of (record_at t code) item arg) arg ≡ item
law_of t code item arg lawful in_item in_arg accepted = undone (record_at t code) item arg (lawful.undoable code) in_item in_arg accepted
