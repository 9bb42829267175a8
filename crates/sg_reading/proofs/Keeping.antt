-- Each verb and each note keeps a formed thing formed.
use Rattle.std.proofs.Common.{◌≡◌, ℕ, zero, suc, ◌<◌, ◌≤◌, Bool, true, false, cond, not, List, [], ◌∷◌, ◌++◌, length, drop, Option, Some, None, Ok, Err, refl, sym, ◌∙◌, subst, arith, le_refl, le_trans, max}
use Rattle.std.specs.Prelude.{◌==◌, ◌&&◌, nat_lt, nat_le, slice_get}
use Rattle.std.specs.Ordering.{nat_cmp}
use Rattle.std.specs.Cmp.Lexicographic.{slice_cmp}
use Rattle.std.specs.FinMap.{empty, keys, get-empty}
use Rattle.sg_ops.specs.Table.{Table as Operations, record_at}
use Rattle.sg_model.specs.Objects.{Row, Entries, Object}
use Rattle.sg_model.specs.Verb.{Outcome, Verb}
use Rattle.sg_model.specs.Objects.Object.{Array, Table, Blob}
use Rattle.sg_model.specs.Verb.Verb.{MakeArray, MakeTable, MakeBlob, Discard, Push, Pop, Set, Get, Len, Apply, Put, Del, Find, Keys, Write, Read, Size, Paint}
use Rattle.sg_model.specs.Verb.Reply.{Done, Bytes, Number, Several}
use Rattle.sg_model.specs.declared.reason.Reason.TheVariants.{OutOfRange, TooLong, TooMany, Declined}
use Rattle.sg_model.specs.Step.{record_named, put_item, push, pop_item, pop_at, pop, at_found, at_item, set_to, done_by, apply, at_key, put_value, del_value, found, write, read, resize, paint, on_array, on_table, on_blob, on}
use Rattle.sg_model.specs.Touches.{seen}
use Rattle.sg_model.specs.Touches.Part.{Length, Body}
use Rattle.sg_model.proofs.Parts.{length_pushed, length_set}
use Rattle.sg_recovery.proofs.Basic.{le_is, lt_is}
use Rattle.sg_reading.specs.Reading.{Around, Thing, Tomb, plain, Slot, thing_extra}
use Rattle.sg_reading.specs.Reading.Thing.{There}
use Rattle.sg_reading.specs.Back.{Undoing, Before, Patch, located, padded, all_laid, all_zero, lay, Plan, lay_plan, undone_by, unapply, forget, if_done, carried_out, unmade, raised, back}
use Rattle.sg_reading.specs.Back.Undoing.{WasNothing, WasMake, WasDrop, WasPush, WasPop, WasSet, WasApply, WasPut, WasOver, WasBytes}
use Rattle.sg_reading.specs.Back.Plan.{TakeLast, Append, Replace, Reverse, Forget, Restore, Lay}
use Rattle.sg_reading.specs.Did.{Did, grown}
use Rattle.sg_reading.specs.Noted.{IsFormedThing, IsFormed, AreUndone, BringsBytes, BringsBack}
use Rattle.sg_reading.proofs.Notes.{some_one}
use Rattle.sg_reading.proofs.Bytes.{length_padded}
use Rattle.sg_reading.proofs.Formed.{IsRow, RowKeeps, IsShort, take_less, push_row, pop_row, item_row, set_sized, done_sized, undone_sized, short_row, key_short, put_short, del_short, find_short, forget_short}
use Rattle.sg_base.specs.Bytes.{IsBytes}

max_right : (a b : ℕ) → b ≤ max a b
max_right a b = omega arith

max_within : (a b c : ℕ) → a ≤ c → b ≤ c → max a b ≤ c
max_within a b c h k = omega (arith, h, k)

row_of : (row : Row) (w : Around) → IsFormedThing (There (Array row) w) → IsRow row
row_of row w h = (le_trans h.0 h.1, h.2)

-- VERBS

module _ (d : Did) (verb : Verb) (done : Bool) where
  row_formed : (row new : Row) (w : Around) (root : ℕ) (bands : List ℕ) → IsFormedThing (There (Array row) w) → IsRow new → IsFormedThing (There (Array new) (record { root = root; peak = max w.peak (length new.items); bands = bands }))
  row_formed row new w root bands h k = (max_right w.peak (length new.items), max_within w.peak (length new.items) 1048576 h.1 k.0, k.1)

  stays : (a : Option Thing) → IsFormed a → IsFormed (grown d verb done a (plain a))
  stays None h = tt
  stays (Some (There (Array row) w)) h = row_formed row row w w.root (w.bands ++ d.bands) h (row_of row w h)
  stays (Some (There (Table m) w)) h = h
  stays (Some (There (Blob x) w)) h = max_right w.peak (length x)

  array_formed : (f : Row → Outcome × Row) → RowKeeps f → (a : Option Thing) → IsFormed a → IsFormed (grown d verb done a (on_array f (plain a)).1)
  array_formed f k None h = tt
  array_formed f k (Some (There (Array row) w)) h = row_formed row (f row).1 w w.root (w.bands ++ d.bands) h (k row (row_of row w h))
  array_formed f k (Some (There (Table m) w)) h = h
  array_formed f k (Some (There (Blob x) w)) h = max_right w.peak (length x)

  table_formed : (f : Entries → Outcome × Entries) → ((m : Entries) → IsShort m → IsShort (f m).1) → (a : Option Thing) → IsFormed a → IsFormed (grown d verb done a (on_table f (plain a)).1)
  table_formed f k None h = tt
  table_formed f k (Some (There (Array row) w)) h = row_formed row row w w.root (w.bands ++ d.bands) h (row_of row w h)
  table_formed f k (Some (There (Table m) w)) h = k m h
  table_formed f k (Some (There (Blob x) w)) h = max_right w.peak (length x)

  blob_formed : (f : List ℕ → Outcome × List ℕ) → (a : Option Thing) → IsFormed a → IsFormed (grown d verb done a (on_blob f (plain a)).1)
  blob_formed f None h = tt
  blob_formed f (Some (There (Array row) w)) h = row_formed row row w w.root (w.bands ++ d.bands) h (row_of row w h)
  blob_formed f (Some (There (Table m) w)) h = h
  blob_formed f (Some (There (Blob x) w)) h = max_right w.peak (length (f x).1)

made_row : (d : Did) (verb : Verb) (done : Bool) (n : ℕ) → IsFormed (grown d verb done None (Some (Array (record { size = n; items = [] }))))
made_row d verb done n = (le_refl 0, (let k : 0 ≤ 1048576 = omega arith in k), (λ i item e. absurd (cc)))

empty_short : IsShort empty
empty_short k v e = absurd (let f : ◌≡◌ {A = Option (List ℕ)} None (Some v) = sym (get-empty (slice_cmp nat_cmp) k) ∙ e in cc)

pub verb_formed : (t : Operations) → AreUndone t → (d : Did) (verb : Verb) (done : Bool) (a : Option Thing) → BringsBytes verb → IsFormed a → IsFormed (grown d verb done a (on t verb (plain a)).1)
verb_formed t long d (MakeArray n) done None b h = go (nat_le 1 n && nat_le n 256)
  where
    go : (c : Bool) → IsFormed (grown d (MakeArray n) done None (cond {A = Outcome × Option Object} c (Ok Done, Some (Array (record { size = n; items = [] }))) (Err OutOfRange, None)).1)
    go true = made_row d (MakeArray n) done n
    go false = tt
verb_formed t long d (MakeArray n) done (Some th) b h = stays d (MakeArray n) done (Some th) h
verb_formed t long d MakeTable done None b h = empty_short
verb_formed t long d MakeTable done (Some th) b h = stays d MakeTable done (Some th) h
verb_formed t long d MakeBlob done None b h = le_refl 0
verb_formed t long d MakeBlob done (Some th) b h = stays d MakeBlob done (Some th) h
verb_formed t long d Discard done None b h = tt
verb_formed t long d Discard done (Some th) b h = tt
verb_formed t long d (Push v) done a b h = array_formed d (Push v) done (push v) (push_row v b) a h
verb_formed t long d Pop done a b h = array_formed d Pop done pop pop_row a h
verb_formed t long d (Set i v) done a b h = array_formed d (Set i v) done (at_item i (set_to v)) (item_row i (set_to v) (set_sized v b)) a h
verb_formed t long d (Get i) done a b h = array_formed d (Get i) done (at_item i (λ size item. (Ok (Bytes item), None))) (item_row i (λ size item. (Ok (Bytes item), None)) (λ size item new e f. absurd (cc))) a h
verb_formed t long d Len done a b h = stays d Len done a h
verb_formed t long d (Apply i code arg) done a b h = array_formed d (Apply i code arg) done (apply t i code arg)
    (short_row (nat_lt 256 (length arg)) (at_item i (λ size item. done_by arg item (record_named t code))) (item_row i (λ size item. done_by arg item (record_named t code)) (done_sized t long code arg b))) a h
verb_formed t long d (Put k v) done a b h = table_formed d (Put k v) done (at_key k (put_value v)) (key_short k (put_value v) (put_short v)) a h
verb_formed t long d (Del k) done a b h = table_formed d (Del k) done (at_key k del_value) (key_short k del_value del_short) a h
verb_formed t long d (Find k) done a b h = table_formed d (Find k) done (at_key k found) (key_short k found find_short) a h
verb_formed t long d Keys done a b h = table_formed d Keys done (λ m. (Ok (Several (keys m)), m)) (λ m e. e) a h
verb_formed t long d (Write from bytes) done a b h = blob_formed d (Write from bytes) done (write from bytes) a h
verb_formed t long d (Read from count) done a b h = blob_formed d (Read from count) done (λ blob. (read from count blob, blob)) a h
verb_formed t long d (Size n) done a b h = blob_formed d (Size n) done (resize n) a h
verb_formed t long d (Paint from count code arg) done a b h = blob_formed d (Paint from count code arg) done (paint t from count code arg) a h

-- NOTES, which leave the peak

pop_less : (row : Row) → length (pop row).1.items ≤ length row.items
pop_less row = go (length row.items)
  where
    by_item : (n : ℕ) (x : Option (List ℕ)) → length (pop_item row n x).1.items ≤ length row.items
    by_item n None = le_refl (length row.items)
    by_item n (Some x) = take_less n row.items

    go : (m : ℕ) → length (pop_at row m).1.items ≤ length row.items
    go zero = le_refl (length row.items)
    go (suc n) = by_item n (slice_get row.items n)

push_most : (v : List ℕ) (row : Row) (peak : ℕ) → length row.items < peak → length (push v row).1.items ≤ peak
push_most v row peak h = go (length v == row.size) (nat_lt (length row.items) 1048576)
  where
    one : (n m : ℕ) → n < m → suc n ≤ m
    one n m h = omega (arith, h)

    less : (n m : ℕ) → n < m → n ≤ m
    less n m h = omega (arith, h)

    go : (b c : Bool) → length (cond {A = Outcome × Row} (not b) (Err Declined, row) (cond {A = Outcome × Row} (not c) (Err TooMany, row) (Ok (Number (length row.items)), record row { items = row.items ++ v ∷ [] }))).1.items ≤ peak
    go true true = subst (λ n. n ≤ peak) (sym (length_pushed row.items v)) (one (length row.items) peak h)
    go true false = less (length row.items) peak h
    go false c = less (length row.items) peak h

item_long : (i : ℕ) (decide : ℕ → List ℕ → Outcome × Option (List ℕ)) (row : Row) → length (at_item i decide row).1.items ≡ length row.items
item_long i decide row = go (slice_get row.items i)
  where
    by_new : (y : Option (List ℕ)) → length (put_item row i y).items ≡ length row.items
    by_new None = refl
    by_new (Some v) = length_set row.items i v

    go : (x : Option (List ℕ)) → length (at_found i decide row x).1.items ≡ length row.items
    go None = refl
    go (Some item) = by_new (decide row.size item).1

back_row : (row new : Row) (w : Around) → IsFormedThing (There (Array row) w) → IsRow new → length new.items ≤ w.peak → IsFormedThing (There (Array new) w)
back_row row new w h k l = (l, h.1, k.1)

undo_array : (out : Outcome) (row new : Row) (w : Around) (th : Option Thing) → IsFormedThing (There (Array row) w) → IsRow new → length new.items ≤ w.peak → if_done out (Some (There (Array new) w)) ≡ Some th → IsFormed th
undo_array (Ok r) row new w th h k l e = subst IsFormed (some_one (Some (There (Array new) w)) th e) (back_row row new w h k l)
undo_array (Err r) row new w th h k l e = absurd (cc)

undo_table : (out : Outcome) (new : Entries) (w : Around) (th : Option Thing) → IsShort new → if_done out (Some (There (Table new) w)) ≡ Some th → IsFormed th
undo_table (Ok r) new w th k e = subst IsFormed (some_one (Some (There (Table new) w)) th e) k
undo_table (Err r) new w th k e = absurd (cc)

lay_formed : (n : ℕ) (ps : List Patch) (x : List ℕ) (w : Around) (th : Option Thing) → n ≤ w.peak → if_done (lay n ps x).0 (Some (There (Blob (lay n ps x).1) w)) ≡ Some th → IsFormed th
lay_formed n ps x w th h = go (all_zero (drop n (all_laid ps x)))
  where
    go : (c : Bool) → if_done (cond {A = Outcome × List ℕ} c (Ok Done, padded n (all_laid ps x)) (Err OutOfRange, x)).0 (Some (There (Blob (cond {A = Outcome × List ℕ} c (Ok Done, padded n (all_laid ps x)) (Err OutOfRange, x)).1) w)) ≡ Some th → IsFormed th
    go true e = subst IsFormed (some_one (Some (There (Blob (padded n (all_laid ps x))) w)) th e) (subst (λ m. m ≤ w.peak) (sym (length_padded n (all_laid ps x))) h)
    go false e = absurd (cc)

-- what a plan brings are bytes
abbrev BringsIn : Plan → Type 0
BringsIn (Append item) = IsBytes item
BringsIn (Replace i item) = IsBytes item
BringsIn (Reverse i code arg) = IsBytes arg
BringsIn other = Unit {0}

module _ (t : Operations) (long : AreUndone t) where
  -- a change of an object that leaves its peak
  plan_formed : (plan : Plan) (a th : Option Thing) → BringsIn plan → IsFormed a → ((v : List ℕ) → plan ≡ Append v → seen (plain a) Length < thing_extra a Length) → ((n : ℕ) (ps : List Patch) → plan ≡ Lay n ps → n ≤ (thing_extra a Body).peak)
      → carried_out t (Some plan) a ≡ Some th → IsFormed th
  plan_formed TakeLast (Some (There (Array row) w)) th b h f g e = undo_array (pop row).0 row (pop row).1 w th h (pop_row row (row_of row w h)) (le_trans (pop_less row) h.0) e
  plan_formed (Append v) (Some (There (Array row) w)) th b h f g e = undo_array (push v row).0 row (push v row).1 w th h (push_row v b row (row_of row w h)) (push_most v row w.peak (f v refl)) e
  plan_formed (Replace i v) (Some (There (Array row) w)) th b h f g e =
      undo_array (at_item i (set_to v) row).0 row (at_item i (set_to v) row).1 w th h (item_row i (set_to v) (set_sized v b) row (row_of row w h)) (subst (λ n. n ≤ w.peak) (sym (item_long i (set_to v) row)) h.0) e
  plan_formed (Reverse i code arg) (Some (There (Array row) w)) th b h f g e =
      undo_array (unapply t i code arg row).0 row (unapply t i code arg row).1 w th h
      (short_row (nat_lt 256 (length arg)) (at_item i (λ size item. undone_by arg item (record_at t code))) (item_row i (λ size item. undone_by arg item (record_at t code)) (undone_sized t long code arg b)) row (row_of row w h))
      (subst (λ n. n ≤ w.peak) (sym (by_test (nat_lt 256 (length arg)))) h.0) e
    where
      by_test : (c : Bool) → length (cond {A = Outcome × Row} c (Err TooLong, row) (at_item i (λ size item. undone_by arg item (record_at t code)) row)).1.items ≡ length row.items
      by_test true = refl
      by_test false = item_long i (λ size item. undone_by arg item (record_at t code)) row
  plan_formed (Forget k) (Some (There (Table m) w)) th b h f g e = undo_table (at_key k forget m).0 (at_key k forget m).1 w th (key_short k forget forget_short m h) e
  plan_formed (Restore k v) (Some (There (Table m) w)) th b h f g e = undo_table (at_key k (put_value v) m).0 (at_key k (put_value v) m).1 w th (key_short k (put_value v) (put_short v) m h) e
  plan_formed (Lay n ps) (Some (There (Blob x) w)) th b h f g e = lay_formed n ps x w th (g n ps refl) e
  plan_formed plan a th b h f g e = absurd (cc)

  unmade_formed : (a th : Option Thing) → unmade a ≡ Some th → IsFormed th
  unmade_formed None th e = absurd (cc)
  unmade_formed (Some x) th e = subst IsFormed (some_one None th e) tt

  raised_formed : (a th : Option Thing) (d : Option Tomb) → ((b : Tomb) → d ≡ Some b → IsFormedThing b.thing) → raised a d ≡ Some th → IsFormed th
  raised_formed (Some x) th d h e = absurd (cc)
  raised_formed None th None h e = absurd (cc)
  raised_formed None th (Some b) h e = subst IsFormed (some_one (Some b.thing) th e) (h b refl)

  append_formed : (v : List ℕ) (a th : Option Thing) → IsBytes v → IsFormed a → (c : Bool) → nat_lt (seen (plain a) Length) (thing_extra a Length) ≡ c → carried_out t (cond c (Some (Append v)) None) a ≡ Some th → IsFormed th
  append_formed v a th b h true e k = plan_formed (Append v) a th b h (λ w f. lt_is (seen (plain a) Length) (thing_extra a Length) e) (λ n ps f. absurd (cc)) k
  append_formed v a th b h false e k = absurd (cc)

  bytes_formed : (n : ℕ) (a th : Option Thing) → IsFormed a → (c : Bool) (r : Option (List Patch)) → nat_le n (thing_extra a Body).peak ≡ c → carried_out t (cond c (lay_plan n r) None) a ≡ Some th → IsFormed th
  bytes_formed n a th h true None e k = absurd (cc)
  bytes_formed n a th h true (Some ps) e k = plan_formed (Lay n ps) a th tt h (λ v f. absurd (cc)) (λ m qs f. subst (λ z. z ≤ (thing_extra a Body).peak) (let g : n ≡ m = cc in g) (le_is n (thing_extra a Body).peak e)) k
  bytes_formed n a th h false r e k = absurd (cc)

  -- EVERY note
  pub note_formed : (u : Undoing) (cs : List Before) (s : Slot) (th : Option Thing) → BringsBack u → IsFormed s.thing → ((r : ℕ) (b : Tomb) → s.buried r ≡ Some b → IsFormedThing b.thing) → back t u cs s ≡ Some th → IsFormed th
  note_formed WasNothing cs s th y h k e = absurd (cc)
  note_formed WasMake cs s th y h k e = unmade_formed s.thing th e
  note_formed (WasDrop r) cs s th y h k e = raised_formed s.thing th (s.buried r) (k r) e
  note_formed WasPush cs s th y h k e = plan_formed TakeLast s.thing th y h (λ v f. absurd (cc)) (λ n ps f. absurd (cc)) e
  note_formed (WasPop v) cs s th y h k e = append_formed v s.thing th y h (nat_lt (seen (plain s.thing) Length) (thing_extra s.thing Length)) refl e
  note_formed (WasSet i v) cs s th y h k e = plan_formed (Replace i v) s.thing th y h (λ w f. absurd (cc)) (λ n ps f. absurd (cc)) e
  note_formed (WasApply i code arg) cs s th y h k e = plan_formed (Reverse i code arg) s.thing th y h (λ w f. absurd (cc)) (λ n ps f. absurd (cc)) e
  note_formed (WasPut q) cs s th y h k e = plan_formed (Forget q) s.thing th y h (λ w f. absurd (cc)) (λ n ps f. absurd (cc)) e
  note_formed (WasOver q v) cs s th y h k e = plan_formed (Restore q v) s.thing th y h (λ w f. absurd (cc)) (λ n ps f. absurd (cc)) e
  note_formed (WasBytes n) cs s th y h k e = bytes_formed n s.thing th h (nat_le n (thing_extra s.thing Body).peak) (located (thing_extra s.thing Body).bands cs) refl e
