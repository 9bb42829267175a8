-- What is noted of a verb takes back what it did, where that was done last.
use Rattle.std.proofs.Common.{◌≡◌, ℕ, zero, suc, ◌+◌, ◌≤◌, Bool, true, false, cond, not, List, [], ◌∷◌, ◌++◌, length, take, drop, Option, Some, None, Ok, Err, refl, sym, ap, ◌∙◌, arith}
use Rattle.std.specs.Prelude.{◌||◌, ◌==◌, nat_lt, slice_get, slice_set, min}
use Rattle.std.specs.Str.{bytes_eq}
use Rattle.std.specs.FinMap.{get, insert, remove}
use Rattle.std.proofs.lemmas.Bool.{ltb-false}
use Rattle.std.proofs.lemmas.List.FromFn.{length-map-range_with_len}
use Rattle.sg_ops.specs.Meaning.{RangeMeaning}
use Rattle.sg_ops.specs.Table.{Table as Operations, byte_of, rendered}
use Rattle.sg_model.specs.Objects.{Row, Entries, Object}
use Rattle.sg_model.specs.Verb.{Verb, Outcome}
use Rattle.sg_model.specs.Objects.Object.{Array, Table, Blob}
use Rattle.sg_model.specs.Verb.Verb.{MakeArray, MakeTable, MakeBlob, Discard, Push, Pop, Set, Get, Len, Apply, Put, Del, Find, Keys, Write, Read, Size, Paint}
use Rattle.sg_model.specs.Verb.Reply.{Done, Number}
use Rattle.sg_model.specs.declared.reason.Reason.TheVariants.{OutOfRange, TooLong, TooMany, Declined}
use Rattle.sg_model.specs.Step.{record_named, range_named, put_item, push, pop_item, pop_at, pop, Decision, at_found, at_item, set_to, done_by, Update, updated, put_value, put_reply, del_value, overlaid, write, resized, resize, paint_by, paint, on}
use Rattle.sg_model.specs.Step.Update.{Stays, Becomes}
use Rattle.sg_model.specs.Undo.{Note, note_item, note_last, note_popped, note_put, note_del, note_object, if_replied, note_of, undo}
use Rattle.sg_model.proofs.Parts.{get_put, get_del, same_entries, bytes_same, length_pushed, get_pushed}
use Rattle.sg_model.proofs.Overlaid.{written_back, resized_back}
use Rattle.sg_model.proofs.Slots.{never}
use Rattle.sg_model.proofs.Refused.{replied, verb_refused, verb_reads}

-- lists

pub take_pushed : {A : Type 0} (xs : List A) (v : A) → take (length xs) (xs ++ v ∷ []) ≡ xs
take_pushed [] v = refl
take_pushed (x ∷ xs) v = ap (λ ys. x ∷ ys) (take_pushed xs v)

pub take_last : {A : Type 0} (xs : List A) (n : ℕ) (v : A) → length xs ≡ suc n → slice_get xs n ≡ Some v → take n xs ++ v ∷ [] ≡ xs
take_last [] n v e h = absurd (cc)
take_last (x ∷ []) zero v e h = let p : x ≡ v = cc in ap (λ y. y ∷ []) (sym p)
take_last (x ∷ y ∷ xs) zero v e h = absurd (let f : suc (suc (length xs)) ≡ 1 = e in omega arith)
take_last (x ∷ xs) (suc n) v e h = ap (λ ys. x ∷ ys) (take_last xs n v (let f : suc (length xs) ≡ suc (suc n) = e in omega arith) h)

pub set_back : {A : Type 0} (xs : List A) (i : ℕ) (v old : A) → slice_get xs i ≡ Some old → slice_set (slice_set xs i v) i old ≡ xs
set_back [] i v old h = refl
set_back (x ∷ xs) zero v old h = let p : x ≡ old = cc in ap (λ y. y ∷ xs) (sym p)
set_back (x ∷ xs) (suc i) v old h = ap (λ ys. x ∷ ys) (set_back xs i v old h)

-- arrays

with_items : Row → List (List ℕ) → Row
with_items row xs = record row { items = xs }

pub pop_pushed : (row : Row) (v : List ℕ) → (pop (record row { items = row.items ++ v ∷ [] })).1 ≡ row
unfolding with_items
pop_pushed row v =
    let new : Row = record row { items = row.items ++ v ∷ [] } in
    ap (λ n. (pop_at new n).1) (length_pushed row.items v)
    ∙ (ap (λ x. (pop_item new (length row.items) x).1) (get_pushed row.items v) ∙ ap (with_items row) (take_pushed row.items v))

push_done : (v : List ℕ) (row : Row) → replied (push v row).0 ≡ true → (pop (push v row).1).1 ≡ row
push_done v row = go (not (length v == row.size)) (not (nat_lt (length row.items) 1048576))
  where
    go : (b c : Bool) → replied (cond {A = Outcome × Row} b (Err Declined, row) (cond {A = Outcome × Row} c (Err TooMany, row) (Ok (Number (length row.items)), record row { items = row.items ++ v ∷ [] }))).0 ≡ true
        → (pop (cond {A = Outcome × Row} b (Err Declined, row) (cond {A = Outcome × Row} c (Err TooMany, row) (Ok (Number (length row.items)), record row { items = row.items ++ v ∷ [] }))).1).1 ≡ row
    go true c h = never h
    go false true h = never h
    go false false h = pop_pushed row v

pop_done : (row : Row) (m : ℕ) → length row.items ≡ m → replied (pop_at row m).0 ≡ true → undo (note_last m row) (Some (Array (pop_at row m).1)) ≡ Some (Array row)
pop_done row zero e h = never h
pop_done row (suc n) e h = go (slice_get row.items n) refl h
  where
    go : (x : Option (List ℕ)) → slice_get row.items n ≡ x → replied (pop_item row n x).0 ≡ true → undo (note_popped x) (Some (Array (pop_item row n x).1)) ≡ Some (Array row)
    go None f h = never h
    go (Some v) f h = ap (λ xs. Some (Array (record row { items = xs }))) (take_last row.items n v e f)

item_done : (i : ℕ) (d : Decision) (row : Row) (x : Option (List ℕ)) → slice_get row.items i ≡ x → replied (at_found i d row x).0 ≡ true → undo (note_item i x) (Some (Array (at_found i d row x).1)) ≡ Some (Array row)
item_done i d row None f h = never h
item_done i d row (Some old) f h = go (d row.size old).1
  where
    go : (r : Option (List ℕ)) → Some (Array (put_item (put_item row i r) i (Some old))) ≡ Some (Array row)
    go None = ap (λ xs. Some (Array (record row { items = xs }))) (same row.items i f)
      where
        same : (xs : List (List ℕ)) (i : ℕ) → slice_get xs i ≡ Some old → slice_set xs i old ≡ xs
        same [] i h = refl
        same (x ∷ xs) zero h = let p : x ≡ old = cc in ap (λ y. y ∷ xs) (sym p)
        same (x ∷ xs) (suc i) h = ap (λ ys. x ∷ ys) (same xs i h)
    go (Some v) = ap (λ xs. Some (Array (record row { items = xs }))) (set_back row.items i v old f)

apply_done : (t : Operations) (i code : ℕ) (arg : List ℕ) (row : Row) (b : Bool) → replied (cond {A = Outcome × Row} b (Err TooLong, row) (at_item i (λ size item. done_by arg item (record_named t code)) row)).0 ≡ true
    → undo (note_item i (slice_get row.items i)) (Some (Array (cond {A = Outcome × Row} b (Err TooLong, row) (at_item i (λ size item. done_by arg item (record_named t code)) row)).1)) ≡ Some (Array row)
apply_done t i code arg row true h = never h
apply_done t i code arg row false h = item_done i (λ size item. done_by arg item (record_named t code)) row (slice_get row.items i) refl h

-- tables

pub un_new : (m : Entries) (k v : List ℕ) → get m k ≡ None → remove (insert m k v) k ≡ m
un_new m k v none = same_entries (remove (insert m k v) k) m (λ q. get_del (insert m k v) k q ∙ (ap (λ r. cond (bytes_eq k q) None r) (get_put m k v q) ∙ go q (bytes_eq k q) refl))
  where
    go : (q : List ℕ) (b : Bool) → bytes_eq k q ≡ b → cond b None (cond b (Some v) (get m q)) ≡ get m q
    go q true e = sym (ap (λ j. get m j) (sym (bytes_same k q e)) ∙ none)
    go q false e = refl

pub un_put : (m : Entries) (k v old : List ℕ) → get m k ≡ Some old → insert (insert m k v) k old ≡ m
un_put m k v old is = same_entries (insert (insert m k v) k old) m (λ q. get_put (insert m k v) k old q ∙ (ap (λ r. cond (bytes_eq k q) (Some old) r) (get_put m k v q) ∙ go q (bytes_eq k q) refl))
  where
    go : (q : List ℕ) (b : Bool) → bytes_eq k q ≡ b → cond b (Some old) (cond b (Some v) (get m q)) ≡ get m q
    go q true e = sym (ap (λ j. get m j) (sym (bytes_same k q e)) ∙ is)
    go q false e = refl

pub un_del : (m : Entries) (k old : List ℕ) → get m k ≡ Some old → insert (remove m k) k old ≡ m
un_del m k old is = same_entries (insert (remove m k) k old) m (λ q. get_put (remove m k) k old q ∙ (ap (λ r. cond (bytes_eq k q) (Some old) r) (get_del m k q) ∙ go q (bytes_eq k q) refl))
  where
    go : (q : List ℕ) (b : Bool) → bytes_eq k q ≡ b → cond b (Some old) (cond b None (get m q)) ≡ get m q
    go q true e = sym (ap (λ j. get m j) (sym (bytes_same k q e)) ∙ is)
    go q false e = refl

key_done : (k : List ℕ) (d : Option (List ℕ) → Outcome × Update) (note : Note) (m : Entries) → (replied (d (get m k)).0 ≡ true → undo note (Some (Table (updated m k (d (get m k)).1))) ≡ Some (Table m)) → (b c : Bool)
    → replied (cond {A = Outcome × Entries} b (Err OutOfRange, m) (cond {A = Outcome × Entries} c (Err TooLong, m) ((d (get m k)).0, updated m k (d (get m k)).1))).0 ≡ true
    → undo note (Some (Table (cond {A = Outcome × Entries} b (Err OutOfRange, m) (cond {A = Outcome × Entries} c (Err TooLong, m) ((d (get m k)).0, updated m k (d (get m k)).1))).1)) ≡ Some (Table m)
key_done k d note m f true c h = never h
key_done k d note m f false true h = never h
key_done k d note m f false false h = f h

put_done : (k v : List ℕ) (m : Entries) (x : Option (List ℕ)) → get m k ≡ x → replied (put_value v x).0 ≡ true → undo (note_put k x) (Some (Table (updated m k (put_value v x).1))) ≡ Some (Table m)
put_done k v m x e = go (nat_lt 1024 (length v)) x e
  where
    go : (b : Bool) (x : Option (List ℕ)) → get m k ≡ x → replied (cond {A = Outcome × Update} b (Err TooLong, Stays) (Ok (put_reply x), Becomes v)).0 ≡ true → undo (note_put k x) (Some (Table (updated m k (cond {A = Outcome × Update} b (Err TooLong, Stays) (Ok (put_reply x), Becomes v)).1))) ≡ Some (Table m)
    go true x e h = never h
    go false None e h = ap (λ y. Some (Table y)) (un_new m k v e)
    go false (Some old) e h = ap (λ y. Some (Table y)) (un_put m k v old e)

del_done : (k : List ℕ) (m : Entries) (x : Option (List ℕ)) → get m k ≡ x → replied (del_value x).0 ≡ true → undo (note_del k x) (Some (Table (updated m k (del_value x).1))) ≡ Some (Table m)
del_done k m None e h = refl
del_done k m (Some old) e h = ap (λ y. Some (Table y)) (un_del m k old e)

-- blobs

write_done : (at : ℕ) (bytes blob : List ℕ) → replied (write at bytes blob).0 ≡ true → overlaid (resized (length blob) (write at bytes blob).1) at (take (length bytes) (drop at blob)) ≡ blob
write_done at bytes blob = go (nat_lt 8192 (length bytes) || nat_lt 16384000 (at + length bytes)) (nat_lt (length blob) at) refl
  where
    go : (b c : Bool) → nat_lt (length blob) at ≡ c → replied (cond {A = Outcome × List ℕ} b (Err TooLong, blob) (cond {A = Outcome × List ℕ} c (Err OutOfRange, blob) (Ok Done, overlaid blob at bytes))).0 ≡ true
        → overlaid (resized (length blob) (cond {A = Outcome × List ℕ} b (Err TooLong, blob) (cond {A = Outcome × List ℕ} c (Err OutOfRange, blob) (Ok Done, overlaid blob at bytes))).1) at (take (length bytes) (drop at blob)) ≡ blob
    go true c e h = never h
    go false true e h = never h
    go false false e h = written_back blob at bytes (ltb-false (length blob) at e)

size_done : (n : ℕ) (blob : List ℕ) → replied (resize n blob).0 ≡ true → overlaid (resized (length blob) (resize n blob).1) (min n (length blob)) (drop n blob) ≡ blob
size_done n blob = go (nat_lt 16384000 n)
  where
    go : (b : Bool) → replied (cond {A = Outcome × List ℕ} b (Err TooLong, blob) (Ok Done, resized n blob)).0 ≡ true → overlaid (resized (length blob) (cond {A = Outcome × List ℕ} b (Err TooLong, blob) (Ok Done, resized n blob)).1) (min n (length blob)) (drop n blob) ≡ blob
    go true h = never h
    go false h = resized_back blob n

length_rendered : (m : Option RangeMeaning) (arg : List ℕ) (at count : ℕ) → length (rendered m arg at count) ≡ count
unfolding rendered
length_rendered m arg at count = length-map-range_with_len (λ k. byte_of m arg (at + k)) 0 count

module _ (t : Operations) (at count code : ℕ) (arg blob : List ℕ) where
  painted : Bool → Bool → Option RangeMeaning → Outcome × List ℕ
  painted b c m = cond {A = Outcome × List ℕ} b (Err TooLong, blob) (cond {A = Outcome × List ℕ} c (Err OutOfRange, blob) (paint_by at count arg blob m))

  painted_done : (b c : Bool) → nat_lt (length blob) (at + count) ≡ c → (m : Option RangeMeaning) → replied (painted b c m).0 ≡ true → overlaid (resized (length blob) (painted b c m).1) at (take count (drop at blob)) ≡ blob
  unfolding painted
  painted_done true c e m h = never h
  painted_done false true e m h = never h
  painted_done false false e None h = never h
  painted_done false false e (Some m) h =
      let within : at + count ≤ length blob = ltb-false (length blob) (at + count) e in
      ap (λ (n : ℕ). overlaid (resized (length blob) (overlaid blob at (rendered (Some m) arg at count))) at (take n (drop at blob))) (sym (length_rendered (Some m) arg at count))
      ∙ written_back blob at (rendered (Some m) arg at count) (omega arith)

  paint_done : replied (paint t at count code arg blob).0 ≡ true → overlaid (resized (length blob) (paint t at count code arg blob).1) at (take count (drop at blob)) ≡ blob
  unfolding painted
  paint_done = painted_done (nat_lt 256 (length arg)) (nat_lt (length blob) (at + count)) refl (range_named t code)

-- each verb

verb_done : (t : Operations) (verb : Verb) (o : Option Object) → replied (on t verb o).0 ≡ true → undo (note_object verb o) (on t verb o).1 ≡ o
verb_done t (MakeArray n) None h = refl
verb_done t MakeTable None h = refl
verb_done t MakeBlob None h = refl
verb_done t Discard (Some (Array row)) h = refl
verb_done t Discard (Some (Table m)) h = refl
verb_done t Discard (Some (Blob b)) h = refl
verb_done t (Push v) (Some (Array row)) h = ap (λ r. Some (Array r)) (push_done v row h)
verb_done t Pop (Some (Array row)) h = pop_done row (length row.items) refl h
verb_done t (Set i v) (Some (Array row)) h = item_done i (set_to v) row (slice_get row.items i) refl h
verb_done t (Get i) (Some (Array row)) h = verb_reads t (Get i) (Some (Array row)) refl
verb_done t Len (Some (Array row)) h = refl
verb_done t Len (Some (Blob b)) h = refl
verb_done t (Apply i code arg) (Some (Array row)) h = apply_done t i code arg row (nat_lt 256 (length arg)) h
verb_done t (Put k v) (Some (Table m)) h = key_done k (put_value v) (note_put k (get m k)) m (put_done k v m (get m k) refl) (length k == 0) (nat_lt 128 (length k)) h
verb_done t (Del k) (Some (Table m)) h = key_done k del_value (note_del k (get m k)) m (del_done k m (get m k) refl) (length k == 0) (nat_lt 128 (length k)) h
verb_done t (Find k) (Some (Table m)) h = verb_reads t (Find k) (Some (Table m)) refl
verb_done t Keys (Some (Table m)) h = refl
verb_done t (Write at bytes) (Some (Blob b)) h = ap (λ x. Some (Blob x)) (write_done at bytes b h)
verb_done t (Read at count) (Some (Blob b)) h = refl
verb_done t (Size n) (Some (Blob b)) h = ap (λ x. Some (Blob x)) (size_done n b h)
verb_done t (Paint at count code arg) (Some (Blob b)) h = ap (λ x. Some (Blob x)) (paint_done t at count code arg b h)
verb_done t verb o h = absurd (cc)

pub undo_law : (t : Operations) (verb : Verb) (o : Option Object) → undo (note_of t verb o) (on t verb o).1 ≡ o
undo_law t verb o = go (on t verb o).0 refl
  where
    go : (r : Outcome) → (on t verb o).0 ≡ r → undo (if_replied r (note_object verb o)) (on t verb o).1 ≡ o
    go (Ok x) e = verb_done t verb o (ap replied e)
    go (Err x) e = verb_refused t verb o (ap replied e)
