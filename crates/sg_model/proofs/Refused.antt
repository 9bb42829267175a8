-- A verb that gives a reason changes nothing, nor does one that only reads.
use Rattle.std.proofs.Common.{◌≡◌, ℕ, zero, suc, ◌+◌, Bool, true, false, cond, not, List, [], ◌∷◌, ◌++◌, length, Option, Some, None, Ok, Err, refl, ap, ◌∙◌}
use Rattle.std.specs.Prelude.{◌||◌, ◌&&◌, ◌==◌, nat_lt, nat_le, slice_get}
use Rattle.std.specs.Str.{bytes_eq}
use Rattle.std.specs.FinMap.{get, keys}
use Rattle.sg_ops.specs.Meaning.{RecordMeaning, RangeMeaning}
use Rattle.sg_ops.specs.Table.{Table as Operations}
use Rattle.sg_model.specs.Objects.{Row, Entries, Object, Objects}
use Rattle.sg_model.specs.Verb.{Verb, Op, Outcome}
use Rattle.sg_model.specs.declared.reason.Reason.{Reason}
use Rattle.sg_model.specs.Objects.Object.{Array, Table, Blob}
use Rattle.sg_model.specs.Verb.Verb.{MakeArray, MakeTable, MakeBlob, Discard, Push, Pop, Set, Get, Len, Apply, Put, Del, Find, Keys, Write, Read, Size, Paint}
use Rattle.sg_model.specs.Verb.Op.{On, Names}
use Rattle.sg_model.specs.Verb.Reply.{Done, Number, Bytes, Several}
use Rattle.sg_model.specs.declared.reason.Reason.TheVariants.{OutOfRange, TooLong, TooMany, Declined}
use Rattle.sg_model.specs.Step.{record_named, range_named, put_item, put_reply, push, pop_item, pop_at, pop, Decision, at_found, at_item, set_to, done_by, apply, Update, updated, at_key, put_value, del_value, found, write, read, resize, paint_by, paint, overlaid, Change, on_array, on_table, on_blob, on, put_at, step, is_changing, is_changing_verb}
use Rattle.sg_model.specs.Step.Update.{Stays, Becomes}
use Rattle.sg_model.proofs.Parts.{same_entries, bytes_same}
use Rattle.sg_model.proofs.Footprint.{get_put_at}

-- whether there is a reply
abbrev pub replied : Outcome → Bool
replied (Ok reply) = true
replied (Err reason) = false

-- a change that gives a reason leaves what was there
abbrev pub KeepsRefused : {A : Type 0} → (A → Outcome × A) → Type 0
KeepsRefused {A} change = (x : A) → replied (change x).0 ≡ false → (change x).1 ≡ x

no : {A : Type 0} → true ≡ false → A
no h = absurd (cc)

push_refused : (v : List ℕ) → KeepsRefused (push v)
push_refused v row = go (not (length v == row.size)) (not (nat_lt (length row.items) 1048576))
  where
    go : (b c : Bool) → replied (cond {A = Outcome × Row} b (Err Declined, row) (cond {A = Outcome × Row} c (Err TooMany, row) (Ok (Number (length row.items)), record row { items = row.items ++ v ∷ [] }))).0 ≡ false
        → (cond {A = Outcome × Row} b (Err Declined, row) (cond {A = Outcome × Row} c (Err TooMany, row) (Ok (Number (length row.items)), record row { items = row.items ++ v ∷ [] }))).1 ≡ row
    go true c h = refl
    go false true h = refl
    go false false h = no h

pop_refused : KeepsRefused pop
pop_refused row = go (length row.items)
  where
    item : (n : ℕ) (x : Option (List ℕ)) → replied (pop_item row n x).0 ≡ false → (pop_item row n x).1 ≡ row
    item n None h = refl
    item n (Some v) h = no h

    go : (m : ℕ) → replied (pop_at row m).0 ≡ false → (pop_at row m).1 ≡ row
    go zero h = refl
    go (suc n) h = item n (slice_get row.items n) h

-- a decision that gives a reason puts nothing there
abbrev PutsWhenDone : Decision → Type 0
PutsWhenDone d = (n : ℕ) (v : List ℕ) → replied (d n v).0 ≡ false → (d n v).1 ≡ None

item_refused : (i : ℕ) (d : Decision) → PutsWhenDone d → KeepsRefused (at_item i d)
item_refused i d p row = go (slice_get row.items i)
  where
    go : (x : Option (List ℕ)) → replied (at_found i d row x).0 ≡ false → (at_found i d row x).1 ≡ row
    go None h = refl
    go (Some v) h = ap (λ r. put_item row i r) (p row.size v h)

set_decides : (v : List ℕ) → PutsWhenDone (set_to v)
set_decides v n w = go (length v == n)
  where
    go : (b : Bool) → replied (cond {A = Outcome × Option (List ℕ)} b (Ok Done, Some v) (Err Declined, None)).0 ≡ false → (cond {A = Outcome × Option (List ℕ)} b (Ok Done, Some v) (Err Declined, None)).1 ≡ None
    go true h = no h
    go false h = refl

done_decides : (t : Operations) (code : ℕ) (arg : List ℕ) → PutsWhenDone (λ size item. done_by arg item (record_named t code))
done_decides t code arg n v = go (record_named t code)
  where
    test : (m : RecordMeaning) (b : Bool) → replied (cond {A = Outcome × Option (List ℕ)} b (Ok Done, Some (m.after v arg)) (Err Declined, None)).0 ≡ false → (cond {A = Outcome × Option (List ℕ)} b (Ok Done, Some (m.after v arg)) (Err Declined, None)).1 ≡ None
    test m true h = no h
    test m false h = refl

    go : (m : Option RecordMeaning) → replied (done_by arg v m).0 ≡ false → (done_by arg v m).1 ≡ None
    go None h = refl
    go (Some m) h = test m (m.accepts v arg) h

-- a test before a change
tested : {A : Type 0} (b : Bool) (reason : Reason) (x : A) (r : Outcome × A) → (replied r.0 ≡ false → r.1 ≡ x) → replied (cond {A = Outcome × A} b (Err reason, x) r).0 ≡ false → (cond {A = Outcome × A} b (Err reason, x) r).1 ≡ x
tested true reason x r f h = refl
tested false reason x r f h = f h

apply_refused : (t : Operations) (i code : ℕ) (arg : List ℕ) → KeepsRefused (apply t i code arg)
apply_refused t i code arg row = tested (nat_lt 256 (length arg)) TooLong row (at_item i (λ size item. done_by arg item (record_named t code)) row) (item_refused i (λ size item. done_by arg item (record_named t code)) (done_decides t code arg) row)

key_refused : (k : List ℕ) (d : Option (List ℕ) → Outcome × Update) → ((x : Option (List ℕ)) → replied (d x).0 ≡ false → (d x).1 ≡ Stays) → KeepsRefused (at_key k d)
key_refused k d p m = tested (length k == 0) OutOfRange m (cond {A = Outcome × Entries} (nat_lt 128 (length k)) (Err TooLong, m) ((d (get m k)).0, updated m k (d (get m k)).1))
    (tested (nat_lt 128 (length k)) TooLong m ((d (get m k)).0, updated m k (d (get m k)).1) (λ h. ap (λ u. updated m k u) (p (get m k) h)))

put_decides : (v : List ℕ) (x : Option (List ℕ)) → replied (put_value v x).0 ≡ false → (put_value v x).1 ≡ Stays
put_decides v x = go (nat_lt 1024 (length v))
  where
    go : (b : Bool) → replied (cond {A = Outcome × Update} b (Err TooLong, Stays) (Ok (put_reply x), Becomes v)).0 ≡ false → (cond {A = Outcome × Update} b (Err TooLong, Stays) (Ok (put_reply x), Becomes v)).1 ≡ Stays
    go true h = refl
    go false h = no h

del_decides : (x : Option (List ℕ)) → replied (del_value x).0 ≡ false → (del_value x).1 ≡ Stays
del_decides None h = refl
del_decides (Some v) h = no h

found_decides : (x : Option (List ℕ)) → replied (found x).0 ≡ false → (found x).1 ≡ Stays
found_decides None h = refl
found_decides (Some v) h = refl

write_refused : (at : ℕ) (bytes : List ℕ) → KeepsRefused (write at bytes)
write_refused at bytes blob = tested (nat_lt 8192 (length bytes) || nat_lt 16384000 (at + length bytes)) TooLong blob (cond {A = Outcome × List ℕ} (nat_lt (length blob) at) (Err OutOfRange, blob) (Ok Done, overlaid blob at bytes))
    (tested (nat_lt (length blob) at) OutOfRange blob (Ok Done, overlaid blob at bytes) no)

size_refused : (n : ℕ) → KeepsRefused (resize n)
size_refused n blob = tested (nat_lt 16384000 n) TooLong blob _ no

paint_refused : (t : Operations) (at count code : ℕ) (arg : List ℕ) → KeepsRefused (paint t at count code arg)
paint_refused t at count code arg blob = tested (nat_lt 256 (length arg)) TooLong blob (cond {A = Outcome × List ℕ} (nat_lt (length blob) (at + count)) (Err OutOfRange, blob) (paint_by at count arg blob (range_named t code)))
    (tested (nat_lt (length blob) (at + count)) OutOfRange blob (paint_by at count arg blob (range_named t code)) (by (range_named t code)))
  where
    by : (m : Option RangeMeaning) → replied (paint_by at count arg blob m).0 ≡ false → (paint_by at count arg blob m).1 ≡ blob
    by None h = refl
    by (Some m) h = no h

array_refused : (f : Row → Outcome × Row) → KeepsRefused f → KeepsRefused (on_array f)
array_refused f p None h = refl
array_refused f p (Some (Array row)) h = ap (λ r. Some (Array r)) (p row h)
array_refused f p (Some (Table m)) h = refl
array_refused f p (Some (Blob b)) h = refl

table_refused : (f : Entries → Outcome × Entries) → KeepsRefused f → KeepsRefused (on_table f)
table_refused f p None h = refl
table_refused f p (Some (Array row)) h = refl
table_refused f p (Some (Table m)) h = ap (λ r. Some (Table r)) (p m h)
table_refused f p (Some (Blob b)) h = refl

blob_refused : (f : List ℕ → Outcome × List ℕ) → KeepsRefused f → KeepsRefused (on_blob f)
blob_refused f p None h = refl
blob_refused f p (Some (Array row)) h = refl
blob_refused f p (Some (Table m)) h = refl
blob_refused f p (Some (Blob b)) h = ap (λ r. Some (Blob r)) (p b h)

pub verb_refused : (t : Operations) (verb : Verb) → KeepsRefused (on t verb)
verb_refused t (MakeArray size) None h = go (nat_le 1 size && nat_le size 256) h
  where
    go : (b : Bool) → replied (cond {A = Change} b (Ok Done, Some (Array record { size = size; items = [] })) (Err OutOfRange, None)).0 ≡ false → (cond {A = Change} b (Ok Done, Some (Array record { size = size; items = [] })) (Err OutOfRange, None)).1 ≡ None
    go true h = no h
    go false h = refl
verb_refused t (MakeArray size) (Some o) h = refl
verb_refused t MakeTable None h = no h
verb_refused t MakeTable (Some o) h = refl
verb_refused t MakeBlob None h = no h
verb_refused t MakeBlob (Some o) h = refl
verb_refused t Discard None h = refl
verb_refused t Discard (Some o) h = no h
verb_refused t (Push v) o h = array_refused (push v) (push_refused v) o h
verb_refused t Pop o h = array_refused pop pop_refused o h
verb_refused t (Set i v) o h = array_refused (at_item i (set_to v)) (item_refused i (set_to v) (set_decides v)) o h
verb_refused t (Get i) o h = array_refused (at_item i (λ size item. (Ok (Bytes item), None))) (item_refused i (λ size item. (Ok (Bytes item), None)) (λ n v e. refl)) o h
verb_refused t Len o h = refl
verb_refused t (Apply i code arg) o h = array_refused (apply t i code arg) (apply_refused t i code arg) o h
verb_refused t (Put k v) o h = table_refused (at_key k (put_value v)) (key_refused k (put_value v) (put_decides v)) o h
verb_refused t (Del k) o h = table_refused (at_key k del_value) (key_refused k del_value del_decides) o h
verb_refused t (Find k) o h = table_refused (at_key k found) (key_refused k found found_decides) o h
verb_refused t Keys o h = table_refused (λ m. (Ok (Several (keys m)), m)) (λ m e. refl) o h
verb_refused t (Write at bytes) o h = blob_refused (write at bytes) (write_refused at bytes) o h
verb_refused t (Read at count) o h = blob_refused (λ blob. (read at count blob, blob)) (λ b e. refl) o h
verb_refused t (Size n) o h = blob_refused (resize n) (size_refused n) o h
verb_refused t (Paint at count code arg) o h = blob_refused (paint t at count code arg) (paint_refused t at count code arg) o h

-- putting back what is there changes nothing
pub put_same : (s : Objects) (n : List ℕ) → put_at s n (get s n) ≡ s
put_same s n = same_entries (put_at s n (get s n)) s (λ q. get_put_at s n (get s n) q ∙ go q (bytes_eq n q) refl)
  where
    go : (q : List ℕ) (b : Bool) → bytes_eq n q ≡ b → cond b (get s n) (get s q) ≡ get s q
    go q true e = ap (λ k. get s k) (bytes_same n q e)
    go q false e = refl

pub step_refused : (t : Operations) (s : Objects) (op : Op) → replied (step t s op).0 ≡ false → (step t s op).1 ≡ s
unfolding step
step_refused t s (On n verb) h = ap (λ o. put_at s n o) (verb_refused t verb (get s n) h) ∙ put_same s n
step_refused t s Names h = refl

-- what only reads

get_reads : (i : ℕ) (row : Row) (x : Option (List ℕ)) → (at_found i (λ size item. (Ok (Bytes item), None)) row x).1 ≡ row
get_reads i row None = refl
get_reads i row (Some item) = refl

found_stays : (x : Option (List ℕ)) → (found x).1 ≡ Stays
found_stays None = refl
found_stays (Some v) = refl

find_cond : (b c : Bool) (k : List ℕ) (m : Entries) → (cond {A = Outcome × Entries} b (Err OutOfRange, m) (cond {A = Outcome × Entries} c (Err TooLong, m) ((found (get m k)).0, updated m k (found (get m k)).1))).1 ≡ m
find_cond true c k m = refl
find_cond false true k m = refl
find_cond false false k m = ap (λ u. updated m k u) (found_stays (get m k))

find_reads : (k : List ℕ) (m : Entries) → (at_key k found m).1 ≡ m
find_reads k m = find_cond (length k == 0) (nat_lt 128 (length k)) k m

pub verb_reads : (t : Operations) (verb : Verb) (o : Option Object) → is_changing_verb verb ≡ false → (on t verb o).1 ≡ o
verb_reads t (Get i) None h = refl
verb_reads t (Get i) (Some (Array row)) h = ap (λ r. Some (Array r)) (get_reads i row (slice_get row.items i))
verb_reads t (Get i) (Some (Table m)) h = refl
verb_reads t (Get i) (Some (Blob b)) h = refl
verb_reads t Len o h = refl
verb_reads t (Find k) None h = refl
verb_reads t (Find k) (Some (Array row)) h = refl
verb_reads t (Find k) (Some (Table m)) h = ap (λ r. Some (Table r)) (find_reads k m)
verb_reads t (Find k) (Some (Blob b)) h = refl
verb_reads t Keys None h = refl
verb_reads t Keys (Some (Array row)) h = refl
verb_reads t Keys (Some (Table m)) h = refl
verb_reads t Keys (Some (Blob b)) h = refl
verb_reads t (Read at count) None h = refl
verb_reads t (Read at count) (Some (Array row)) h = refl
verb_reads t (Read at count) (Some (Table m)) h = refl
verb_reads t (Read at count) (Some (Blob b)) h = refl
verb_reads t (MakeArray size) o h = absurd (cc)
verb_reads t MakeTable o h = absurd (cc)
verb_reads t MakeBlob o h = absurd (cc)
verb_reads t Discard o h = absurd (cc)
verb_reads t (Push v) o h = absurd (cc)
verb_reads t Pop o h = absurd (cc)
verb_reads t (Set i v) o h = absurd (cc)
verb_reads t (Apply i c a) o h = absurd (cc)
verb_reads t (Put k v) o h = absurd (cc)
verb_reads t (Del k) o h = absurd (cc)
verb_reads t (Write a b) o h = absurd (cc)
verb_reads t (Size n) o h = absurd (cc)
verb_reads t (Paint a b c d) o h = absurd (cc)

pub step_reads : (t : Operations) (s : Objects) (op : Op) → is_changing op ≡ false → (step t s op).1 ≡ s
unfolding step
step_reads t s (On n verb) h = ap (λ o. put_at s n o) (verb_reads t verb (get s n) h) ∙ put_same s n
step_reads t s Names h = refl
