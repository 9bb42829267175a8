-- The table of registered operations.
use Rattle.std.specs.Prelude.{◌≡◌, ◌≢◌, ◌==◌, ℕ, ◌+◌, List, [], ◌∷◌, ◌++◌, Bool, false, Option, Some, None, map, find}
use Rattle.std.specs.List.{range_with_len}
use Rattle.std.specs.declared.alloc.Global.{Global}
use Rattle.std.specs.declared.dyn_box.DynBox.{DynBox}
use Rattle.sg_ops.specs.declared.entries.RecordEntry.{RecordEntry}
use Rattle.sg_ops.specs.declared.entries.RecordEntry.TheVariants as record_entry
use Rattle.sg_ops.specs.declared.entries.RangeEntry.{RangeEntry}
use Rattle.sg_ops.specs.declared.entries.RangeEntry.TheVariants as range_entry
use Rattle.sg_ops.specs.declared.ops.Ops.{Ops}
use Rattle.sg_ops.specs.Meaning.{RecordMeaning, RangeMeaning}
use Rattle.sg_ops.specs.Shipped.{add_meaning, xor_meaning, rotate_meaning, fill_meaning, ramp_meaning}

-- what is registered, in the order of registration
pub record Table : Type 0 where
  pub records : List RecordMeaning
  pub ranges : List RangeMeaning

-- what an entry means: a shipped operation its own meaning, and one that was brought the meaning of its box
abbrev pub record_of : {X : Type 0} {F : X → Type 0} → (DynBox X Global F → RecordMeaning) → RecordEntry X F → RecordMeaning
record_of r record_entry.Add = add_meaning
record_of r record_entry.Xor = xor_meaning
record_of r record_entry.Rotate = rotate_meaning
record_of r (record_entry.Brought b) = r b

-- the same of a range operation
abbrev pub range_of : {Y : Type 0} {G : Y → Type 0} → (DynBox Y Global G → RangeMeaning) → RangeEntry Y G → RangeMeaning
range_of s range_entry.Ramp = ramp_meaning
range_of s (range_entry.Brought b) = s b

-- The table of an `Ops`, with `fill` first among the range operations, where the two words are read at boxes, as in this
-- crate's own clauses
abbrev pub table_of_boxes : {X Y : Type 0} {F : X → Type 0} {G : Y → Type 0} → (DynBox X Global F → RecordMeaning) → (DynBox Y Global G → RangeMeaning) → Ops X Y F G → Table
table_of_boxes r s ops = record { records = map (record_of r) ops.records.items; ranges = fill_meaning ∷ map (range_of s) ops.ranges.items }

-- The same as a clause of a crate above writes it: `table_of record_meaning range_meaning ops.now`.
abbrev pub table_of : {X Y : Type 0} {F : X → Type 0} {G : Y → Type 0} → (((v : X) × F v) → RecordMeaning) → (((v : Y) × G v) → RangeMeaning) → Ops X Y F G → Table
table_of r s ops = table_of_boxes (λ b. r (b.vtable, b.value)) (λ b. s (b.vtable, b.value)) ops

-- the operation with this code, if one is registered
unfoldable pub record_at : Table → ℕ → Option RecordMeaning
record_at t code = find (λ m. m.code == code) t.records

-- the same among the range operations
unfoldable pub range_at : Table → ℕ → Option RangeMeaning
range_at t code = find (λ m. m.code == code) t.ranges

-- what an operation does, if there is one: with none, nothing is accepted and nothing changes
unfoldable pub accepts_of : Option RecordMeaning → List ℕ → List ℕ → Bool
accepts_of None item arg = false
accepts_of (Some m) item arg = m.accepts item arg

unfoldable pub after_of : Option RecordMeaning → List ℕ → List ℕ → List ℕ
after_of None item arg = item
after_of (Some m) item arg = m.after item arg

unfoldable pub before_of : Option RecordMeaning → List ℕ → List ℕ → List ℕ
before_of None item arg = item
before_of (Some m) item arg = m.before item arg

unfoldable pub byte_of : Option RangeMeaning → List ℕ → ℕ → ℕ
byte_of None arg position = 0
byte_of (Some m) arg position = m.byte arg position

-- the bytes that a range operation gives for so many positions, from one on
unfoldable pub rendered : Option RangeMeaning → List ℕ → ℕ → ℕ → List ℕ
rendered op arg position count = map (λ k. byte_of op arg (position + k)) (range_with_len 0 count)

-- the table that has `fill` alone
abbrev pub fresh_table : Table
fresh_table = record { records = []; ranges = fill_meaning ∷ [] }

-- the table that has the five that come with the crate
abbrev pub shipped_table : Table
shipped_table = record { records = add_meaning ∷ xor_meaning ∷ rotate_meaning ∷ []; ranges = fill_meaning ∷ ramp_meaning ∷ [] }

-- one operation more, under a code that was free, and every other as it was
pub record Adds {M : Type 0} (code_of : M → ℕ) (old new : List M) (op : M) : Type 0 where
  pub was_free : find (λ m. code_of m == code_of op) old ≡ None
  pub is_there : find (λ m. code_of m == code_of op) new ≡ Some op
  pub others : (code : ℕ) → code ≢ code_of op → find (λ m. code_of m == code) new ≡ find (λ m. code_of m == code) old
  pub all : new ≡ old ++ op ∷ []

-- a record operation more in a table
pub record AddsRecord (old new : Table) (op : RecordMeaning) : Type 0 where
  pub records : Adds (λ m. m.code) old.records new.records op
  pub ranges : new.ranges ≡ old.ranges

-- a range operation more
pub record AddsRange (old new : Table) (op : RangeMeaning) : Type 0 where
  pub ranges : Adds (λ m. m.code) old.ranges new.ranges op
  pub records : new.records ≡ old.records
