-- What a note of the log gives, and what the note over plain objects gives: one lemma a form of note.
use Rattle.std.proofs.Common.{◌≡◌, ℕ, ◌+◌, zero, suc, Bool, true, false, cond, List, [], ◌∷◌, ◌++◌, length, drop, Option, Some, None, Ok, Err, refl, sym, ap, ◌∙◌, arith}
use Rattle.std.specs.Prelude.{◌&&◌, nat_lt, nat_le, slice_get, slice_set}
use Rattle.std.specs.Str.{bytes_eq}
use Rattle.std.specs.FinMap.{get}
use Rattle.sg_ops.specs.Table.{Table as Operations, record_at}
use Rattle.sg_ops.specs.Meaning.{RecordMeaning}
use Rattle.sg_model.specs.Objects.{Row, Entries, Object}
use Rattle.sg_model.specs.Verb.{Outcome, Reply, Verb}
use Rattle.sg_model.specs.Verb.Verb.{MakeArray, MakeTable, MakeBlob, Discard, Push, Pop, Set, Get, Len, Apply, Put, Del, Find, Keys, Write, Read, Size, Paint}
use Rattle.sg_model.specs.Objects.Object.{Array, Table, Blob}
use Rattle.sg_model.specs.Verb.Reply.{Done}
use Rattle.sg_model.specs.declared.reason.Reason.TheVariants.{OutOfRange, Declined, TooLong}
use Rattle.sg_model.specs.Step.{record_named, overlaid, resized, put_item, at_found, at_item, set_to, Update, updated, at_key, put_value, on, apply, done_by, write, resize, paint}
use Rattle.sg_model.specs.Step.Update.{Becomes, Goes}
use Rattle.sg_model.specs.Undo.{Note, undo, note_item, note_last, note_popped, note_put, note_del, note_object, if_replied}
use Rattle.std.proofs.lemmas.Bool.{eq-eqb}
use Rattle.sg_model.specs.Touches.{seen}
use Rattle.sg_model.specs.Touches.Part.{Length, Item, Body}
use Rattle.sg_model.proofs.Parts.{same_entries, get_set}
use Rattle.sg_reading.specs.Did.{Did, slot_after}
use Rattle.sg_reading.specs.Noted.{IsItem, IsFormed, BringsBytes, noted, noted_last, noted_popped, noted_item, noted_put, noted_del, AreUndone, PutsBack, PutsBackOf}
use Rattle.sg_model.proofs.Footprint.{get_put_at}
use Rattle.sg_reading.specs.Reading.{Thing, Tomb, Reading, plain, objects, Slot, slot, thing_extra}
use Rattle.sg_reading.specs.Reading.Thing.{There}
use Rattle.sg_reading.specs.Back.{Undoing, UndoNote, Before, Patch, located, all_laid, all_zero, padded, lay, Plan, lay_plan, undone_by, unapply, forget, change, rebuilt, if_done, carried_out, unmade, raised, back, raises, with_thing, without_tomb, put_back, unstep}
use Rattle.sg_reading.specs.Back.Undoing.{WasNothing, WasMake, WasDrop, WasPush, WasPop, WasSet, WasApply, WasPut, WasOver, WasBytes}
use Rattle.sg_reading.specs.Back.Plan.{TakeLast, Append, Replace, Reverse, Forget, Restore, Lay}
use Rattle.sg_reading.specs.Plainly.{dug_note, reversed, laid_note, plainly, unstep_plain}
use Rattle.sg_reading.proofs.Notes.{some_one, keeps, after}
use Rattle.sg_reading.proofs.Undone.{push_done, Found, found_item, law_of, set_done, short_arg, keyed, put_done, key_fits, item_fits, applied}
use Rattle.sg_reading.proofs.Slotted.{get_objects, slot_put}
use Rattle.sg_base.specs.Bytes.{IsBytes}
use Rattle.sg_model.proofs.Undoing.{undo_law}
use Rattle.sg_reading.proofs.Bytes.{length_padded}

abbrev pub plan_note : Operations → Plan → Option Object → Note
plan_note t TakeLast o = Note.WasPushed
plan_note t (Append v) o = Note.WasPopped v
plan_note t (Replace i v) o = Note.WasSet i v
plan_note t (Reverse i code arg) o = reversed i arg (record_at t code) (seen o (Item i))
plan_note t (Forget k) o = Note.WasPut k
plan_note t (Restore k v) o = Note.HadValue k v
plan_note t (Lay n ps) o = Note.HadBytes 0 (padded n (all_laid ps (seen o Body))) n

-- an item that becomes another
becomes : (i : ℕ) (decide : ℕ → List ℕ → Outcome × Option (List ℕ)) (row : Row) (r : Reply) (new : List ℕ) → (at_item i decide row).0 ≡ Ok r
    → ((item : List ℕ) → slice_get row.items i ≡ Some item → (decide row.size item).0 ≡ Ok r → (decide row.size item).1 ≡ Some new) → (at_item i decide row).1 ≡ put_item row i (Some new)
becomes i decide row r new h f =
    let k = found_item i decide row r h in
    ap (λ y. (at_found i decide row y).1) k.there ∙ ap (λ y. put_item row i y) (f k.item k.there k.said)

reversed_item : (arg item : List ℕ) (m : RecordMeaning) (r : Reply) → (undone_by arg item (Some m)).0 ≡ Ok r → (undone_by arg item (Some m)).1 ≡ Some (m.before item arg)
reversed_item arg item m r = go (m.accepts (m.before item arg) arg && bytes_eq (m.after (m.before item arg) arg) item)
  where
    go : (c : Bool) → (cond {A = Outcome × Option (List ℕ)} c (Ok Done, Some (m.before item arg)) (Err Declined, None)).0 ≡ Ok r → (cond {A = Outcome × Option (List ℕ)} c (Ok Done, Some (m.before item arg)) (Err Declined, None)).1 ≡ Some (m.before item arg)
    go true h = refl
    go false h = absurd (cc)

-- apply
apply_tie : (t : Operations) (i code : ℕ) (arg : List ℕ) (row : Row) (r : Reply) → (unapply t i code arg row).0 ≡ Ok r → Some (Array (unapply t i code arg row).1) ≡ undo (reversed i arg (record_at t code) (slice_get row.items i)) (Some (Array row))
apply_tie t i code arg row r h =
    let s = short_arg (nat_lt 256 (length arg)) row (at_item i (λ size item. undone_by arg item (record_at t code)) row) r h in
    ap (λ c. Some (Array (cond {A = Outcome × Row} c (Err TooLong, row) (at_item i (λ size item. undone_by arg item (record_at t code)) row)).1)) s.0
    ∙ go (record_at t code) refl s.1
  where
    by_item : (m : RecordMeaning) → (k : Found i (λ size item. undone_by arg item (Some m)) row r)
        → Some (Array (at_item i (λ size item. undone_by arg item (Some m)) row).1) ≡ undo (reversed i arg (Some m) (slice_get row.items i)) (Some (Array row))
    by_item m k = ap (λ y. Some (Array (at_found i (λ size item. undone_by arg item (Some m)) row y).1)) k.there
        ∙ (ap (λ y. Some (Array (put_item row i y))) (reversed_item arg k.item m r k.said) ∙ sym (ap (λ y. undo (reversed i arg (Some m) y) (Some (Array row))) k.there))

    nobody : (y : Option (List ℕ)) → (at_found i (λ size item. undone_by arg item None) row y).0 ≡ Ok r → ⊥
    nobody None h = absurd (cc)
    nobody (Some x) h = absurd (cc)

    go : (x : Option RecordMeaning) → record_at t code ≡ x → (at_item i (λ size item. undone_by arg item (record_at t code)) row).0 ≡ Ok r
        → Some (Array (at_item i (λ size item. undone_by arg item (record_at t code)) row).1) ≡ undo (reversed i arg (record_at t code) (slice_get row.items i)) (Some (Array row))
    go None e h = absurd (nobody (slice_get row.items i) (ap (λ z. (at_item i (λ size item. undone_by arg item z) row).0) (sym e) ∙ h))
    go (Some m) e h =
        ap (λ z. Some (Array (at_item i (λ size item. undone_by arg item z) row).1)) e
        ∙ (by_item m (found_item i (λ size item. undone_by arg item (Some m)) row r (ap (λ z. (at_item i (λ size item. undone_by arg item z) row).0) (sym e) ∙ h))
        ∙ sym (ap (λ z. undo (reversed i arg z (slice_get row.items i)) (Some (Array row))) e))

key_tie : (k : List ℕ) (decide : Option (List ℕ) → Outcome × Update) (m : Entries) (r : Reply) (u : Update) → (at_key k decide m).0 ≡ Ok r → ((x : Option (List ℕ)) → (decide x).0 ≡ Ok r → (decide x).1 ≡ u) → (at_key k decide m).1 ≡ updated m k u
key_tie k decide m r u h f =
    let e = keyed k decide m r h in
    ap (λ (z : Outcome × Entries). z.1) (key_fits k decide m (decide (get m k)).0 (decide (get m k)).1 e.some e.short refl) ∙ ap (λ x. updated m k x) (f (get m k) e.said)

forgets : (x : Option (List ℕ)) (r : Reply) → (forget x).0 ≡ Ok r → (forget x).1 ≡ Goes
forgets None r h = absurd (cc)
forgets (Some v) r h = refl

-- bytes
length_resized : (n : ℕ) (x : List ℕ) → length (resized n x) ≡ n
length_resized n x = length_padded n x

dropped_all : {A : Type 0} (n : ℕ) (xs : List A) → length xs ≡ n → drop n xs ≡ []
dropped_all zero [] e = refl
dropped_all (suc n) [] e = refl
dropped_all zero (x ∷ xs) e = absurd (cc)
dropped_all (suc n) (x ∷ xs) e = dropped_all n xs (let k : suc (length xs) ≡ suc n = e in omega (arith, k))

pub whole_laid : (n : ℕ) (x bytes : List ℕ) → length bytes ≡ n → overlaid (resized n x) 0 bytes ≡ bytes
whole_laid n x bytes e = ap (λ m. bytes ++ drop m (resized n x)) (let k : 0 + length bytes ≡ length bytes = omega arith in k) ∙ ap (λ rest. bytes ++ rest) (dropped_all (length bytes) (resized n x) (length_resized n x ∙ sym e)) ∙ append_nil bytes
  where
    append_nil : (xs : List ℕ) → xs ++ [] ≡ xs
    append_nil [] = refl
    append_nil (y ∷ ys) = ap (λ zs. y ∷ zs) (append_nil ys)

lay_is : (n : ℕ) (ps : List Patch) (x : List ℕ) (r : Reply) → (lay n ps x).0 ≡ Ok r → (lay n ps x).1 ≡ padded n (all_laid ps x)
lay_is n ps x r = go (all_zero (drop n (all_laid ps x)))
  where
    go : (c : Bool) → (cond {A = Outcome × List ℕ} c (Ok Done, padded n (all_laid ps x)) (Err OutOfRange, x)).0 ≡ Ok r → (cond {A = Outcome × List ℕ} c (Ok Done, padded n (all_laid ps x)) (Err OutOfRange, x)).1 ≡ padded n (all_laid ps x)
    go true h = refl
    go false h = absurd (cc)

lay_tie : (n : ℕ) (ps : List Patch) (x : List ℕ) (r : Reply) → (lay n ps x).0 ≡ Ok r → (lay n ps x).1 ≡ overlaid (resized n x) 0 (padded n (all_laid ps x))
lay_tie n ps x r h = lay_is n ps x r h ∙ sym (whole_laid n x (padded n (all_laid ps x)) (length_padded n (all_laid ps x)))

pub plan_tie : (t : Operations) (plan : Plan) (o : Option Object) (r : Reply) → (change t plan o).0 ≡ Ok r → (change t plan o).1 ≡ undo (plan_note t plan o) o
plan_tie t TakeLast o r h = refl
plan_tie t (Append v) (Some (Array row)) r h = ap (λ (z : Outcome × Row). Some (Array z.1)) (push_done v row r h)
plan_tie t (Replace i v) (Some (Array row)) r h = ap (λ z. Some (Array z)) (becomes i (set_to v) row r v h (λ item e k. ap (λ (z : Outcome × Option (List ℕ)). z.1) (set_done v row.size item r k)))
plan_tie t (Reverse i code arg) (Some (Array row)) r h = apply_tie t i code arg row r h
plan_tie t (Forget k) (Some (Table m)) r h = ap (λ z. Some (Table z)) (key_tie k forget m r Goes h (λ x e. forgets x r e))
plan_tie t (Restore k v) (Some (Table m)) r h = ap (λ z. Some (Table z)) (key_tie k (put_value v) m r (Becomes v) h (λ x e. ap (λ (z : Outcome × Update). z.1) (put_done v x r e)))
plan_tie t (Lay n ps) (Some (Blob x)) r h = ap (λ z. Some (Blob z)) (lay_tie n ps x r h)
plan_tie t plan o r h = absurd (cc)

-- a note by its plan
done_tie : (t : Operations) (plan : Plan) (a th : Option Thing) → carried_out t (Some plan) a ≡ Some th → plain th ≡ undo (plan_note t plan (plain a)) (plain a)
done_tie t plan a th = go (change t plan (plain a)).0 refl
  where
    go : (out : Outcome) → (change t plan (plain a)).0 ≡ out → if_done out (rebuilt a (change t plan (plain a)).1) ≡ Some th → plain th ≡ undo (plan_note t plan (plain a)) (plain a)
    go (Ok r) e h = ap plain (sym (some_one (rebuilt a (change t plan (plain a)).1) th h)) ∙ ((keeps t plan a).plain ∙ plan_tie t plan (plain a) r e)
    go (Err x) e h = absurd (cc)

pop_tie : (t : Operations) (v : List ℕ) (c : Bool) (a th : Option Thing) → carried_out t (cond c (Some (Append v)) None) a ≡ Some th → plain th ≡ undo (Note.WasPopped v) (plain a)
pop_tie t v true a th h = done_tie t (Append v) a th h
pop_tie t v false a th h = absurd (cc)

bytes_tie : (t : Operations) (n : ℕ) (c : Bool) (r : Option (List Patch)) (a th : Option Thing) → carried_out t (cond c (lay_plan n r) None) a ≡ Some th → plain th ≡ undo (laid_note n (seen (plain a) Body) r) (plain a)
bytes_tie t n true None a th h = absurd (cc)
bytes_tie t n true (Some ps) a th h = done_tie t (Lay n ps) a th h
bytes_tie t n false r a th h = absurd (cc)

make_tie : (a th : Option Thing) → unmade a ≡ Some th → plain th ≡ None
make_tie None th h = absurd (cc)
make_tie (Some x) th h = ap plain (sym (some_one None th h))

drop_tie : (a th : Option Thing) (d : Option Tomb) → raised a d ≡ Some th → plain th ≡ undo (dug_note d) (plain a)
drop_tie (Some x) th d h = absurd (cc)
drop_tie None th None h = absurd (cc)
drop_tie None th (Some d) h = ap plain (sym (some_one (Some d.thing) th h))

-- WHERE A NOTE CAN BE UNDONE, it does to the object what its plain note does
pub note_tie : (t : Operations) (u : Undoing) (cs : List Before) (s : Slot) (th : Option Thing) → back t u cs s ≡ Some th → plain th ≡ undo (plainly t u cs s) (plain s.thing)
note_tie t WasNothing cs s th h = absurd (cc)
note_tie t WasMake cs s th h = make_tie s.thing th h
note_tie t (WasDrop r) cs s th h = drop_tie s.thing th (s.buried r) h
note_tie t WasPush cs s th h = done_tie t TakeLast s.thing th h
note_tie t (WasPop v) cs s th h = pop_tie t v (nat_lt (seen (plain s.thing) Length) (thing_extra s.thing Length)) s.thing th h
note_tie t (WasSet i v) cs s th h = done_tie t (Replace i v) s.thing th h
note_tie t (WasApply i code arg) cs s th h = done_tie t (Reverse i code arg) s.thing th h
note_tie t (WasPut k) cs s th h = done_tie t (Forget k) s.thing th h
note_tie t (WasOver k v) cs s th h = done_tie t (Restore k v) s.thing th h
note_tie t (WasBytes n) cs s th h = bytes_tie t n (nat_le n (thing_extra s.thing Body).peak) (located (thing_extra s.thing Body).bands cs) s.thing th h

-- and so to all objects
pub unstep_tie : (t : Operations) (o : Reading) (n : UndoNote) (cs : List Before) (p : Reading) → unstep t o n cs ≡ Some p → objects p ≡ unstep_plain (objects o) (n.name, plainly t n.undoes cs (slot o n.name))
unstep_tie t o n cs p = go (back t n.undoes cs (slot o n.name)) refl
  where
    m : Note
    m = plainly t n.undoes cs (slot o n.name)

    at_name : (b : Bool) (th : Option Thing) (q : List ℕ) → plain th ≡ undo (plainly t n.undoes cs (slot o n.name)) (plain (slot o n.name).thing)
        → plain (cond b (after (raises n.undoes) (slot o n.name) th) (slot o q)).thing ≡ cond b (undo (plainly t n.undoes cs (slot o n.name)) (get (objects o) n.name)) (get (objects o) q)
    at_name true th q e = e ∙ ap (λ x. undo (plainly t n.undoes cs (slot o n.name)) x) (sym (get_objects o n.name))
    at_name false th q e = sym (get_objects o q)

    go : (x : Option (Option Thing)) → back t n.undoes cs (slot o n.name) ≡ x → put_back o n x ≡ Some p → objects p ≡ unstep_plain (objects o) (n.name, plainly t n.undoes cs (slot o n.name))
    go None e h = absurd (cc)
    go (Some th) e h =
        let now = with_thing (without_tomb o n.name (raises n.undoes)) n.name th in
        ap objects (sym (some_one now p h)) ∙ same_entries (objects now) (unstep_plain (objects o) (n.name, plainly t n.undoes cs (slot o n.name))) (λ q.
        get_objects now q ∙ (ap (λ (s : Slot). plain s.thing) (slot_put o n.name (raises n.undoes) th q)
        ∙ (at_name (bytes_eq n.name q) th q (note_tie t n.undoes cs (slot o n.name) th e)
        ∙ sym (get_put_at (objects o) n.name (undo (plainly t n.undoes cs (slot o n.name)) (get (objects o) n.name)) q))))

-- WHERE A VERB LEFT IT, its note amounts to the plain note of the verb

last_tie : (t : Operations) (cs : List Before) (s : Slot) (m : ℕ) (row : Row) → plainly t (noted_last m row) cs s ≡ note_last m row
last_tie t cs s zero row = refl
last_tie t cs s (suc n) row = go (slice_get row.items n)
  where
    go : (x : Option (List ℕ)) → plainly t (noted_popped x) cs s ≡ note_popped x
    go None = refl
    go (Some v) = refl

item_tie : (t : Operations) (cs : List Before) (s : Slot) (i : ℕ) (x : Option (List ℕ)) → plainly t (noted_item i x) cs s ≡ note_item i x
item_tie t cs s i None = refl
item_tie t cs s i (Some v) = refl

put_tie : (t : Operations) (cs : List Before) (s : Slot) (k : List ℕ) (x : Option (List ℕ)) → plainly t (noted_put k x) cs s ≡ note_put k x
put_tie t cs s k None = refl
put_tie t cs s k (Some v) = refl

del_tie : (t : Operations) (cs : List Before) (s : Slot) (k : List ℕ) (x : Option (List ℕ)) → plainly t (noted_del k x) cs s ≡ note_del k x
del_tie t cs s k None = refl
del_tie t cs s k (Some v) = refl

applied_tie : (t : Operations) → AreUndone t → (i code : ℕ) (arg : List ℕ) (row : Row) (r : Reply) → IsBytes arg → ((j : ℕ) (item : List ℕ) → slice_get row.items j ≡ Some item → IsItem row.size item) → (apply t i code arg row).0 ≡ Ok r
    → reversed i arg (record_at t code) (slice_get (apply t i code arg row).1.items i) ≡ note_item i (slice_get row.items i)
applied_tie t law i code arg row r bytes are h =
    let doing = λ (size : ℕ) (item : List ℕ). done_by arg item (record_named t code) in
    let s = short_arg (nat_lt 256 (length arg)) row (at_item i doing row) r h in
    let f = found_item i doing row r s.1 in
    let a = applied t code arg f.item r f.said in
    let new = a.by.after f.item arg in
    let is : apply t i code arg row ≡ (Ok Done, record row { items = slice_set row.items i new }) =
    ap (λ c. cond c (Err TooLong, row) (at_item i doing row)) s.0
    ∙ item_fits i doing row f.item new (Ok Done) f.there (ap (λ m. done_by arg f.item m) a.named ∙ ap (λ c. cond {A = Outcome × Option (List ℕ)} c (Ok Done, Some new) (Err Declined, None)) a.accepted) in
    ap (λ (z : Outcome × Row). reversed i arg (record_at t code) (slice_get z.1.items i)) is
    ∙ (ap (λ y. reversed i arg (record_at t code) y) (get_set row.items i f.item new f.there)
    ∙ (ap (λ m. reversed i arg m (Some new)) a.there
    ∙ (ap (λ old. Note.WasSet i old) ((law_of t law code a.by a.there).undoes f.item arg (are i f.item f.there).1 bytes a.accepted) ∙ sym (ap (note_item i) f.there))))

blob_tie : (bands : List ℕ) (cs : List Before) (new old : List ℕ) → PutsBack bands cs new old → undo (laid_note (length old) new (located bands cs)) (Some (Blob new)) ≡ Some (Blob old)
blob_tie bands cs new old p =
    ap (λ ps. undo (laid_note (length old) new ps) (Some (Blob new))) p.at_bands
    ∙ (ap (λ bytes. Some (Blob (overlaid (resized (length old) new) 0 bytes))) p.same ∙ ap (λ bytes. Some (Blob bytes)) (whole_laid (length old) new old refl))

module _ (t : Operations) (law : AreUndone t) (d : Did) (b : ℕ → Option Tomb) (cs : List Before) where
  abbrev Left : Verb → Option Thing → Slot
  Left verb a = slot_after t d verb (record { thing = a; buried = b })

  -- what a note amounts to, undone where the verb left it, is what there was
  TiesBack : Verb → Option Thing → Type 0
  TiesBack verb a = undo (plainly t (noted verb a) cs (Left verb a)) (on t verb (plain a)).1 ≡ plain a

  tied : (verb : Verb) (a : Option Thing) (r : Reply) → (on t verb (plain a)).0 ≡ Ok r → plainly t (noted verb a) cs (Left verb a) ≡ note_object verb (plain a) → TiesBack verb a
  unfolding TiesBack
  tied verb a r h e = ap (λ m. undo m (on t verb (plain a)).1) (e ∙ sym (ap (λ x. if_replied x (note_object verb (plain a))) h)) ∙ undo_law t verb (plain a)

  pub noted_tie : (verb : Verb) (a : Option Thing) (r : Reply) → BringsBytes verb → IsFormed a → (on t verb (plain a)).0 ≡ Ok r → PutsBackOf t verb d.bands cs a → undo (plainly t (noted verb a) cs (Left verb a)) (on t verb (plain a)).1 ≡ plain a
  unfolding TiesBack
  noted_tie (MakeArray n) None r y f h p = tied (MakeArray n) None r h (refl)
  noted_tie MakeTable None r y f h p = tied MakeTable None r h (refl)
  noted_tie MakeBlob None r y f h p = tied MakeBlob None r h (refl)
  noted_tie Discard (Some (There o w)) r y f h p = tied Discard (Some (There o w)) r h (ap (λ c. dug_note (cond c (Some (record { dropper = d.by; thing = There o w })) (b w.root))) (eq-eqb w.root w.root refl))
  noted_tie (Push v) (Some (There (Array row) w)) r y f h p = tied (Push v) (Some (There (Array row) w)) r h (refl)
  noted_tie Pop (Some (There (Array row) w)) r y f h p = tied Pop (Some (There (Array row) w)) r h (last_tie t cs (Left Pop (Some (There (Array row) w))) (length row.items) row)
  noted_tie (Set i v) (Some (There (Array row) w)) r y f h p = tied (Set i v) (Some (There (Array row) w)) r h (item_tie t cs (Left (Set i v) (Some (There (Array row) w))) i (slice_get row.items i))
  noted_tie (Get i) (Some (There (Array row) w)) r y f h p = tied (Get i) (Some (There (Array row) w)) r h (refl)
  noted_tie Len (Some (There (Array row) w)) r y f h p = tied Len (Some (There (Array row) w)) r h (refl)
  noted_tie Len (Some (There (Blob x) w)) r y f h p = tied Len (Some (There (Blob x) w)) r h (refl)
  noted_tie (Apply i code arg) (Some (There (Array row) w)) r y f h p = tied (Apply i code arg) (Some (There (Array row) w)) r h (applied_tie t law i code arg row r y f.2 h)
  noted_tie (Put k v) (Some (There (Table m) w)) r y f h p = tied (Put k v) (Some (There (Table m) w)) r h (put_tie t cs (Left (Put k v) (Some (There (Table m) w))) k (get m k))
  noted_tie (Del k) (Some (There (Table m) w)) r y f h p = tied (Del k) (Some (There (Table m) w)) r h (del_tie t cs (Left (Del k) (Some (There (Table m) w))) k (get m k))
  noted_tie (Find k) (Some (There (Table m) w)) r y f h p = tied (Find k) (Some (There (Table m) w)) r h (refl)
  noted_tie Keys (Some (There (Table m) w)) r y f h p = tied Keys (Some (There (Table m) w)) r h (refl)
  noted_tie (Write from bytes) (Some (There (Blob x) w)) r y f h p = blob_tie (w.bands ++ d.bands) cs (write from bytes x).1 x p
  noted_tie (Read from count) (Some (There (Blob x) w)) r y f h p = tied (Read from count) (Some (There (Blob x) w)) r h (refl)
  noted_tie (Size n) (Some (There (Blob x) w)) r y f h p = blob_tie (w.bands ++ d.bands) cs (resize n x).1 x p
  noted_tie (Paint from count code arg) (Some (There (Blob x) w)) r y f h p = blob_tie (w.bands ++ d.bands) cs (paint t from count code arg x).1 x p
  noted_tie verb a r y f h p = absurd (cc)
