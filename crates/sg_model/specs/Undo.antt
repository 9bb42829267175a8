-- What undoes an operation: what was done, with what stood there before.
use Rattle.std.specs.Prelude.{ℕ, zero, suc, List, [], ◌∷◌, ◌++◌, length, take, drop, min, Option, Some, None, Ok, Err, slice_get, if◌then◌else◌}
use Rattle.std.specs.Str.{bytes_eq}
use Rattle.std.specs.FinMap.{get}
use Rattle.sg_ops.specs.Table.{Table as Operations}
use Rattle.sg_model.specs.Objects.{Row, Entries, Object, Objects}
use Rattle.sg_model.specs.Objects.Object.{Array, Table, Blob}
use Rattle.sg_model.specs.Verb.{Verb, Op, Outcome}
use Rattle.sg_model.specs.Verb.Verb.{Discard, Push, Pop, Set, Apply, Put, Del, Write, Size, Paint}
use Rattle.sg_model.specs.Verb.Op.{On, Names}
use Rattle.sg_model.specs.Verb.Reply.{Done}
use Rattle.sg_model.specs.Step.{put_item, updated, on_array, on_table, on_blob, on, put_at, pop, step, overlaid, resized}
use Rattle.sg_model.specs.Step.Update.{Becomes, Goes}

-- what was done to an object, as far as it has to be known to take it back: nothing; it was made; it was dropped, and was
-- this; an item was pushed, or this one popped; this item stood at an index; a key was new, or had this value; a blob had
-- these bytes at a position, and this length
pub data Note : Type 0 where
  Nothing : Note
  WasMade : Note
  WasDropped : (object : Object) → Note
  WasPushed : Note
  WasPopped : (item : List ℕ) → Note
  WasSet : (index : ℕ) → (item : List ℕ) → Note
  WasPut : (key : List ℕ) → Note
  HadValue : (key value : List ℕ) → Note
  HadBytes : (at : ℕ) → (bytes : List ℕ) → (length : ℕ) → Note

-- What a verb that gets a reply leaves to be known, by what it finds

abbrev pub note_item : ℕ → Option (List ℕ) → Note
note_item index None = Nothing
note_item index (Some item) = WasSet index item

abbrev pub note_popped : Option (List ℕ) → Note
note_popped None = Nothing
note_popped (Some item) = WasPopped item

abbrev pub note_last : ℕ → Row → Note
note_last zero row = Nothing
note_last (suc n) row = note_popped (slice_get row.items n)

abbrev pub note_array : Verb → Row → Note
note_array (Push value) row = WasPushed
note_array Pop row = note_last (length row.items) row
note_array (Set index value) row = note_item index (slice_get row.items index)
note_array (Apply index code arg) row = note_item index (slice_get row.items index)
note_array other row = Nothing

abbrev pub note_put : List ℕ → Option (List ℕ) → Note
note_put key None = WasPut key
note_put key (Some value) = HadValue key value

abbrev pub note_del : List ℕ → Option (List ℕ) → Note
note_del key None = Nothing
note_del key (Some value) = HadValue key value

abbrev pub note_table : Verb → Entries → Note
note_table (Put key value) m = note_put key (get m key)
note_table (Del key) m = note_del key (get m key)
note_table other m = Nothing

-- so many bytes of a blob from a position on, and its length
abbrev pub note_bytes : ℕ → ℕ → List ℕ → Note
note_bytes at count blob = HadBytes at (take count (drop at blob)) (length blob)

abbrev pub note_blob : Verb → List ℕ → Note
note_blob (Write at bytes) blob = note_bytes at (length bytes) blob
note_blob (Size n) blob = HadBytes (min n (length blob)) (drop n blob) (length blob)
note_blob (Paint at count code arg) blob = note_bytes at count blob
note_blob other blob = Nothing

abbrev pub note_there : Verb → Object → Note
note_there Discard object = WasDropped object
note_there verb (Array row) = note_array verb row
note_there verb (Table m) = note_table verb m
note_there verb (Blob blob) = note_blob verb blob

abbrev pub note_object : Verb → Option Object → Note
note_object verb None = WasMade
note_object verb (Some object) = note_there verb object

-- nothing, unless the verb gets a reply
abbrev pub if_replied : Outcome → Note → Note
if_replied (Ok reply) note = note
if_replied (Err reason) note = Nothing

-- what a verb leaves to be known of what stands under its name
abbrev pub note_of : Operations → Verb → Option Object → Note
note_of t verb object = if_replied (on t verb object).0 (note_object verb object)

-- what stands under a name once what was done there last is taken back
abbrev pub undo : Note → Option Object → Option Object
undo Nothing object = object
undo WasMade object = None
undo (WasDropped old) object = Some old
undo WasPushed object = (on_array pop object).1
undo (WasPopped item) object = (on_array (λ row. (Ok Done, record row { items = row.items ++ item ∷ [] })) object).1
undo (WasSet index item) object = (on_array (λ row. (Ok Done, put_item row index (Some item))) object).1
undo (WasPut key) object = (on_table (λ m. (Ok Done, updated m key Goes)) object).1
undo (HadValue key value) object = (on_table (λ m. (Ok Done, updated m key (Becomes value))) object).1
undo (HadBytes at bytes length) object = (on_blob (λ blob. (Ok Done, overlaid (resized length blob) at bytes)) object).1

-- the same of several notes, in the order in which they were made: the last one is taken back first
abbrev pub undo_each : List Note → Option Object → Option Object
undo_each [] object = object
undo_each (note ∷ notes) object = undo note (undo_each notes object)

-- A step together with what undoes it

-- a name, and what was done to what stands under it
abbrev pub OpNote : Type 0
OpNote = List ℕ × Note

abbrev pub note_of_op : Operations → Objects → Op → OpNote
note_of_op t s (On name verb) = (name, note_of t verb (get s name))
note_of_op t s Names = ([], Nothing)

-- the step of an operation, with what undoes it beside what it answers
abbrev pub noted_step : Operations → Objects → Op → (Outcome × OpNote) × Objects
noted_step t s op = (((step t s op).0, note_of_op t s op), (step t s op).1)

-- the objects once what was done last is taken back
abbrev pub unstep : Objects → Outcome × OpNote → Objects
unstep s out = put_at s out.1.0 (undo out.1.1 (get s out.1.0))

-- what stands under a name once an operation that was done last is taken back: that of another name leaves it
abbrev pub undo_on : List ℕ → OpNote → Option Object → Option Object
undo_on name note object = if bytes_eq name note.0 then undo note.1 object else object

-- the same of several operations, in the order in which they were done
abbrev pub undo_all_on : List ℕ → List OpNote → Option Object → Option Object
undo_all_on name [] object = object
undo_all_on name (note ∷ notes) object = undo_on name note (undo_all_on name notes object)
