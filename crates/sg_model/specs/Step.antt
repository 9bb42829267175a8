-- What each verb answers, and the objects after it.
use Rattle.std.specs.Prelude.{◌≡◌, IsOk, ℕ, zero, suc, ◌+◌, ◌-◌, Bool, true, false, ◌==◌, ◌&&◌, ◌||◌, nat_lt, nat_le, not, if◌then◌else◌, List, [], ◌∷◌, ◌++◌, length, take, drop, replicate, Option, Some, None, Ok, Err, slice_get, slice_set}
use Rattle.std.specs.FinMap.{get, insert, remove, empty, keys}
use Rattle.sg_ops.specs.Meaning.{RecordMeaning, RangeMeaning}
use Rattle.sg_ops.specs.Table.{Table as Operations, record_at, range_at, rendered}
use Rattle.sg_model.specs.Objects.{Row, Entries, Object, Objects}
use Rattle.sg_model.specs.Verb.{Verb, Op, Outcome, Reply}
use Rattle.sg_model.specs.Objects.Object.{Array, Table, Blob}
use Rattle.sg_model.specs.Verb.Verb.{MakeArray, MakeTable, MakeBlob, Discard, Push, Pop, Set, Get, Len, Apply, Put, Del, Find, Keys, Write, Read, Size, Paint}
use Rattle.sg_model.specs.Verb.Op.{On, Names}
use Rattle.sg_model.specs.Verb.Reply.{Done, New, Replaced, Absent, Number, Bytes, Several}
use Rattle.sg_model.specs.declared.reason.Reason.{Reason}
use Rattle.sg_model.specs.declared.reason.Reason.TheVariants.{NoObject, WrongKind, Exists, OutOfRange, NoOperation, Declined, TooLong, TooMany}

-- the record operation that a code names. A code has 16 bits
abbrev pub record_named : Operations → ℕ → Option RecordMeaning
record_named t code = if nat_lt code 65536 then record_at t code else None

-- the range operation that a code names
abbrev pub range_named : Operations → ℕ → Option RangeMeaning
range_named t code = if nat_lt code 65536 then range_at t code else None

-- Arrays

-- the item at an index replaced, if there is one to take its place
abbrev pub put_item : Row → ℕ → Option (List ℕ) → Row
put_item row index None = row
put_item row index (Some value) = record row { items = slice_set row.items index value }

abbrev pub push : List ℕ → Row → Outcome × Row
push value row =
    if not (length value == row.size) then (Err Declined, row)
    else (if not (nat_lt (length row.items) 1048576) then (Err TooMany, row)
    else (Ok (Number (length row.items)), record row { items = row.items ++ value ∷ [] }))

abbrev pub pop_item : Row → ℕ → Option (List ℕ) → Outcome × Row
pop_item row n None = (Err OutOfRange, row)
pop_item row n (Some item) = (Ok (Bytes item), record row { items = take n row.items })

abbrev pub pop_at : Row → ℕ → Outcome × Row
pop_at row zero = (Err OutOfRange, row)
pop_at row (suc n) = pop_item row n (slice_get row.items n)

abbrev pub pop : Row → Outcome × Row
pop row = pop_at row (length row.items)

-- What comes of an item, by the size of items: an answer, and the item that takes its place, if one does
abbrev pub Decision : Type 0
Decision = ℕ → List ℕ → Outcome × Option (List ℕ)

abbrev pub at_found : ℕ → Decision → Row → Option (List ℕ) → Outcome × Row
at_found index decide row None = (Err OutOfRange, row)
at_found index decide row (Some item) = let r = decide row.size item in (r.0, put_item row index r.1)

abbrev pub at_item : ℕ → Decision → Row → Outcome × Row
at_item index decide row = at_found index decide row (slice_get row.items index)

abbrev pub got : Decision
got size item = (Ok (Bytes item), None)

abbrev pub set_to : List ℕ → Decision
set_to value size item = if length value == size then (Ok Done, Some value) else (Err Declined, None)

abbrev pub done_by : List ℕ → List ℕ → Option RecordMeaning → Outcome × Option (List ℕ)
done_by arg item None = (Err NoOperation, None)
done_by arg item (Some m) = if m.accepts item arg then (Ok Done, Some (m.after item arg)) else (Err Declined, None)

abbrev pub apply : Operations → ℕ → ℕ → List ℕ → Row → Outcome × Row
apply t index code arg row =
    if nat_lt 256 (length arg) then (Err TooLong, row) else at_item index (λ size item. done_by arg item (record_named t code)) row

-- Tables

-- what becomes of a key
pub data Update : Type 0 where
  Stays : Update
  Becomes : (value : List ℕ) → Update
  Goes : Update

abbrev pub updated : Entries → List ℕ → Update → Entries
updated m key Stays = m
updated m key (Becomes value) = insert m key value
updated m key Goes = remove m key

-- an answer, and what becomes of a key, by the value that it has
abbrev pub at_key : List ℕ → (Option (List ℕ) → Outcome × Update) → Entries → Outcome × Entries
at_key key decide m =
    if length key == 0 then (Err OutOfRange, m)
    else (if nat_lt 128 (length key) then (Err TooLong, m)
    else (let r = decide (get m key) in (r.0, updated m key r.1)))

abbrev pub put_reply : Option (List ℕ) → Reply
put_reply None = New
put_reply (Some old) = Replaced

abbrev pub put_value : List ℕ → Option (List ℕ) → Outcome × Update
put_value value old = if nat_lt 1024 (length value) then (Err TooLong, Stays) else (Ok (put_reply old), Becomes value)

abbrev pub del_value : Option (List ℕ) → Outcome × Update
del_value None = (Ok Absent, Stays)
del_value (Some value) = (Ok Done, Goes)

abbrev pub found : Option (List ℕ) → Outcome × Update
found None = (Ok Absent, Stays)
found (Some value) = (Ok (Bytes value), Stays)

-- Blobs

-- bytes in place of those from a position on
abbrev pub overlaid : List ℕ → ℕ → List ℕ → List ℕ
overlaid blob at bytes = take at blob ++ (bytes ++ drop (at + length bytes) blob)

abbrev pub write : ℕ → List ℕ → List ℕ → Outcome × List ℕ
write at bytes blob =
    if nat_lt 8192 (length bytes) || nat_lt 16384000 (at + length bytes) then (Err TooLong, blob)
    else (if nat_lt (length blob) at then (Err OutOfRange, blob) else (Ok Done, overlaid blob at bytes))

abbrev pub read : ℕ → ℕ → List ℕ → Outcome
read at count blob =
    if nat_lt 8192 count then Err TooLong
    else (if nat_lt (length blob) (at + count) then Err OutOfRange else Ok (Bytes (take count (drop at blob))))

-- bytes cut or filled up with zeros to a length
abbrev pub resized : ℕ → List ℕ → List ℕ
resized n blob = take n blob ++ replicate (n - length blob) 0

abbrev pub resize : ℕ → List ℕ → Outcome × List ℕ
resize n blob = if nat_lt 16384000 n then (Err TooLong, blob) else (Ok Done, resized n blob)

abbrev pub paint_by : ℕ → ℕ → List ℕ → List ℕ → Option RangeMeaning → Outcome × List ℕ
paint_by at count arg blob None = (Err NoOperation, blob)
paint_by at count arg blob (Some m) = (Ok Done, overlaid blob at (rendered (Some m) arg at count))

abbrev pub paint : Operations → ℕ → ℕ → ℕ → List ℕ → List ℕ → Outcome × List ℕ
paint t at count code arg blob =
    if nat_lt 256 (length arg) then (Err TooLong, blob)
    else (if nat_lt (length blob) (at + count) then (Err OutOfRange, blob) else paint_by at count arg blob (range_named t code))

-- One object

-- what a verb answers, and what stands under its name afterwards
abbrev pub Change : Type 0
Change = Outcome × Option Object

abbrev pub make : Object → Option Object → Change
make new None = (Ok Done, Some new)
make new (Some object) = (Err Exists, Some object)

abbrev pub make_array : ℕ → Option Object → Change
make_array size None = if nat_le 1 size && nat_le size 256 then (Ok Done, Some (Array record { size = size; items = [] })) else (Err OutOfRange, None)
make_array size (Some object) = (Err Exists, Some object)

abbrev pub discard : Option Object → Change
discard None = (Err NoObject, None)
discard (Some object) = (Ok Done, None)

abbrev pub on_array : (Row → Outcome × Row) → Option Object → Change
on_array change None = (Err NoObject, None)
on_array change (Some (Array row)) = let r = change row in (r.0, Some (Array r.1))
on_array change (Some (Table m)) = (Err WrongKind, Some (Table m))
on_array change (Some (Blob bytes)) = (Err WrongKind, Some (Blob bytes))

abbrev pub on_table : (Entries → Outcome × Entries) → Option Object → Change
on_table change None = (Err NoObject, None)
on_table change (Some (Array row)) = (Err WrongKind, Some (Array row))
on_table change (Some (Table m)) = let r = change m in (r.0, Some (Table r.1))
on_table change (Some (Blob bytes)) = (Err WrongKind, Some (Blob bytes))

abbrev pub on_blob : (List ℕ → Outcome × List ℕ) → Option Object → Change
on_blob change None = (Err NoObject, None)
on_blob change (Some (Array row)) = (Err WrongKind, Some (Array row))
on_blob change (Some (Table m)) = (Err WrongKind, Some (Table m))
on_blob change (Some (Blob bytes)) = let r = change bytes in (r.0, Some (Blob r.1))

abbrev pub len : Option Object → Outcome
len None = Err NoObject
len (Some (Array row)) = Ok (Number (length row.items))
len (Some (Table m)) = Err WrongKind
len (Some (Blob bytes)) = Ok (Number (length bytes))

abbrev pub on : Operations → Verb → Option Object → Change
on t (MakeArray size) = make_array size
on t MakeTable = make (Table empty)
on t MakeBlob = make (Blob [])
on t Discard = discard
on t (Push value) = on_array (push value)
on t Pop = on_array pop
on t (Set index value) = on_array (at_item index (set_to value))
on t (Get index) = on_array (at_item index got)
on t Len = λ object. (len object, object)
on t (Apply index code arg) = on_array (apply t index code arg)
on t (Put key value) = on_table (at_key key (put_value value))
on t (Del key) = on_table (at_key key del_value)
on t (Find key) = on_table (at_key key found)
on t Keys = on_table (λ m. (Ok (Several (keys m)), m))
on t (Write at bytes) = on_blob (write at bytes)
on t (Read at count) = on_blob (λ blob. (read at count blob, blob))
on t (Size n) = on_blob (resize n)
on t (Paint at count code arg) = on_blob (paint t at count code arg)

-- All objects

-- the objects with this under a name, or with nothing there
abbrev pub put_at : Objects → List ℕ → Option Object → Objects
put_at s name None = remove s name
put_at s name (Some object) = insert s name object

-- what an operation answers, and the objects after it
unfoldable pub step : Operations → Objects → Op → Outcome × Objects
step t s (On name verb) = let r = on t verb (get s name) in (r.0, put_at s name r.1)
step t s Names = (Ok (Several (keys s)), s)

-- whether an operation can change the objects: all but those that only read
abbrev pub is_changing_verb : Verb → Bool
is_changing_verb (Get index) = false
is_changing_verb Len = false
is_changing_verb (Find key) = false
is_changing_verb Keys = false
is_changing_verb (Read at count) = false
is_changing_verb other = true

abbrev pub is_changing : Op → Bool
is_changing (On name verb) = is_changing_verb verb
is_changing Names = false

-- verbs on an object that is there, which make and drop none
abbrev pub IsInPlace : Verb → Type 0
IsInPlace (MakeArray size) = ⊥
IsInPlace MakeTable = ⊥
IsInPlace MakeBlob = ⊥
IsInPlace Discard = ⊥
IsInPlace other = Unit {0}

-- the verbs that take memory for what they leave
abbrev pub GrowsBy : Verb → Type 0
GrowsBy (MakeArray size) = Unit {0}
GrowsBy MakeTable = Unit {0}
GrowsBy MakeBlob = Unit {0}
GrowsBy (Push value) = Unit {0}
GrowsBy (Put key value) = Unit {0}
GrowsBy (Write at bytes) = Unit {0}
GrowsBy (Size length) = Unit {0}
GrowsBy other = ⊥

-- the reason of a refusal, where there is one, and a reply where there is none
abbrev pub Refuses : Outcome → Option Reason → Type 0
Refuses outcome None = IsOk outcome
Refuses outcome (Some reason) = outcome ≡ Err reason

-- the operations that take memory for what they leave or answer
abbrev pub Grows : Op → Type 0
Grows (On name Keys) = Unit {0}
Grows (On name verb) = GrowsBy verb
Grows Names = Unit {0}
