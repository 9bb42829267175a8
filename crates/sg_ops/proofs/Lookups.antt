-- What callers use of an operation that is looked up, and may not be there.
use Rattle.std.proofs.Common.{◌≡◌, ℕ, List, length, true, refl}
use Rattle.std.specs.Prelude.{Option, Some, None, IfSome, is_some}
use Rattle.sg_base.specs.Bytes.{IsBytes}
use Rattle.sg_ops.specs.Meaning.{RecordMeaning, IsUndoable}
use Rattle.sg_ops.specs.Table.{accepts_of, after_of, before_of}

-- what accepts an item is registered
pub known_if : (op : Option RecordMeaning) (arg item : List ℕ) → accepts_of op item arg ≡ true → is_some op ≡ true
unfolding accepts_of
known_if None arg item ok = absurd (cc)
known_if (Some m) arg item ok = refl

pub after_bytes : (op : Option RecordMeaning) (item arg : List ℕ) → IfSome op IsUndoable → IsBytes item → IsBytes arg → accepts_of op item arg ≡ true → IsBytes (after_of op item arg)
unfolding accepts_of after_of
after_bytes None item arg law a b ok = absurd (cc)
after_bytes (Some m) item arg law a b ok = law.leaves_bytes item arg a b ok

pub before_bytes : (op : Option RecordMeaning) (item arg : List ℕ) → IfSome op IsUndoable → IsBytes item → IsBytes arg → IsBytes (before_of op item arg)
unfolding before_of
before_bytes None item arg law a b = a
before_bytes (Some m) item arg law a b = law.undo_leaves_bytes item arg a b

pub after_long : (op : Option RecordMeaning) (item arg : List ℕ) → IfSome op IsUndoable → IsBytes item → IsBytes arg → accepts_of op item arg ≡ true → length (after_of op item arg) ≡ length item
unfolding accepts_of after_of
after_long None item arg law a b ok = absurd (cc)
after_long (Some m) item arg law a b ok = law.keeps_length item arg a b ok

pub before_long : (op : Option RecordMeaning) (item arg : List ℕ) → IfSome op IsUndoable → IsBytes item → IsBytes arg → length (before_of op item arg) ≡ length item
unfolding before_of
before_long None item arg law a b = refl
before_long (Some m) item arg law a b = law.undo_keeps_length item arg a b
