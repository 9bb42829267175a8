-- What a verb wrote in its note takes it back.
use Rattle.std.proofs.Common.{◌≡◌, ℕ, zero, suc, ◌<◌, ◌≤◌, Bool, true, false, cond, not, List, [], ◌∷◌, ◌++◌, length, take, Option, Some, None, Ok, Err, refl, sym, ap, ◌∙◌, subst, arith, le_refl, le_trans, max}
use Rattle.std.specs.Prelude.{◌==◌, ◌&&◌, nat_lt, nat_le, slice_get, slice_set, is_ok, IfSome}
use Rattle.std.specs.Str.{bytes_eq}
use Rattle.std.specs.FinMap.{get, insert, remove, empty}
use Rattle.sg_serial.specs.Machine.{any_touch}
use Rattle.std.proofs.lemmas.Bool.{eqb-true, eq-eqb}
use Rattle.sg_ops.specs.Table.{Table as Operations, record_at}
use Rattle.sg_base.specs.Bytes.{IsBytes}
use Rattle.sg_ops.specs.Meaning.{RecordMeaning, IsUndoable}
use Rattle.sg_model.specs.Objects.{Row, Entries, Object}
use Rattle.sg_model.specs.Verb.{Outcome, Verb, Reply}
use Rattle.sg_model.specs.Objects.Object.{Array, Table, Blob}
use Rattle.sg_model.specs.Verb.Verb.{MakeArray, MakeTable, MakeBlob, Discard, Push, Pop, Set, Get, Len, Apply, Put, Del, Find, Keys, Write, Read, Size, Paint}
use Rattle.sg_model.specs.Verb.Reply.{Done, Number, Bytes}
use Rattle.sg_model.specs.declared.reason.Reason.TheVariants.{OutOfRange, TooLong, TooMany, Declined}
use Rattle.sg_model.specs.Step.{record_named, put_item, push, pop_item, pop_at, pop, at_found, at_item, set_to, done_by, Update, updated, at_key, put_value, put_reply, del_value, write, resize, paint, on}
use Rattle.sg_model.specs.Step.Update.{Stays, Becomes, Goes}
use Rattle.sg_model.specs.Touches.{Part, last_item, to_read, to_write, reach_of}
use Rattle.sg_model.specs.Touches.Part.{Kind, Length, Item, Key, Body, Buried}
use Rattle.sg_model.specs.Touches.Region.{Just}
use Rattle.sg_model.proofs.Parts.{writes_part, get_put, bytes_self, length_pushed, get_pushed, length_take, get_set}
use Rattle.sg_model.proofs.Undoing.{take_pushed, take_last, set_back, un_new, un_put, un_del}
use Rattle.sg_recovery.proofs.Basic.{le_true, lt_true, lt_false, true_or_false}
use Rattle.sg_reading.specs.Reading.{Around, Thing, Tomb, plain, Slot, bared_tomb, shown, Le}
use Rattle.sg_reading.specs.Reading.Thing.{There}
use Rattle.sg_reading.specs.Back.{Undoing, Before, located, all_laid, padded, Plan, lay_plan, planned, undone_by, forget, change, rebuilt, if_done, carried_out, raised, back, raises, note_reach}
use Rattle.sg_reading.specs.Back.Undoing.{WasNothing, WasMake, WasPush, WasPop, WasSet, WasApply, WasPut, WasOver, WasBytes}
use Rattle.sg_reading.specs.Back.Plan.{TakeLast, Append, Replace, Reverse, Forget, Restore, Lay}
use Rattle.sg_reading.specs.Did.{Did, risen, entry_bytes, grown, buried_by, slot_after}
use Rattle.sg_reading.specs.Noted.{BringsBytes, PutsBack, PutsBackOf, IsRootFree, noted, noted_last, noted_item, noted_popped, noted_put, noted_del, IsFormedThing, IsFormed, IsFormedSlot, AreUndone}
use Rattle.sg_reading.proofs.Notes.{after, writes_of, SlotUndone}
use Rattle.sg_reading.proofs.Whole.{le_of, same_of, same_is, shown_same, slot_local}

-- undone from there, it leaves no less than there was, and touches what the verb wrote
pub record TakesBack (t : Operations) (verb : Verb) (u : Undoing) (cs : List Before) (s now : Slot) : Type 0 where
  pub thing : Option Thing
  pub is : back t u cs now ≡ Some thing
  pub le : (q : Part) → Le q (shown s q) (shown (after (raises u) now thing) q)
  pub reach : note_reach u (plain now.thing) ≡ reach_of verb (plain s.thing)

-- the same object, with a peak that isn't lower and bands behind its own
le_thing : (b : ℕ → Option Tomb) (o : Object) (w v : Around) (more : List ℕ) → v.root ≡ w.root → w.peak ≤ v.peak → v.bands ≡ w.bands ++ more
    → (q : Part) → Le q (shown (record { thing = Some (There o w); buried = b }) q) (shown (record { thing = Some (There o v); buried = b }) q)
le_thing b (Array row) w v more e f g Kind = record { sort = refl; value = refl; extra = sym e }
le_thing b (Array row) w v more e f g Length = record { sort = refl; value = refl; extra = f }
le_thing b (Table m) w v more e f g Kind = record { sort = refl; value = refl; extra = sym e }
le_thing b (Table m) w v more e f g Length = record { sort = refl; value = refl; extra = le_refl 0 }
le_thing b (Blob x) w v more e f g Kind = record { sort = refl; value = refl; extra = sym e }
le_thing b (Blob x) w v more e f g Length = record { sort = refl; value = refl; extra = le_refl 0 }
le_thing b (Array row) w v more e f g Body = record { sort = refl; value = refl; extra = (le_refl 0, ([], refl)) }
le_thing b (Table m) w v more e f g Body = record { sort = refl; value = refl; extra = (le_refl 0, ([], refl)) }
le_thing b (Blob x) w v more e f g Body = record { sort = refl; value = refl; extra = (f, (more, g)) }
le_thing b o w v more e f g (Item i) = record { sort = refl; value = refl; extra = tt }
le_thing b o w v more e f g (Key k) = record { sort = refl; value = refl; extra = tt }
le_thing b o w v more e f g (Buried r) = record { sort = refl; value = refl; extra = refl }

max_more : (a b : ℕ) → a ≤ max a b
max_more a b = omega arith

risen_more : (verb : Verb) (done : Bool) (o : Object) (old : ℕ) → old ≤ risen verb done o old
risen_more verb done (Array row) old = max_more old (length row.items)
risen_more verb done (Blob x) old = max_more old (length x)
risen_more (Put k v) true (Table m) old = max_more old (entry_bytes m)
risen_more verb done (Table m) old = le_refl old

module _ (t : Operations) (d : Did) (b : ℕ → Option Tomb) where
  abbrev At : Option Thing → Slot
  At a = record { thing = a; buried = b }

  abbrev Later : Verb → Object → Around → Around
  Later verb new w = record { root = w.root; peak = risen verb true new w.peak; bands = w.bands ++ d.bands }

  -- a verb that changes an object and leaves its kind
  middle_back : (verb : Verb) (u : Undoing) (cs : List Before) (o new : Object) (w : Around) (r r2 : Reply) (plan : Plan)
      → on t verb (Some o) ≡ (Ok r, Some new)
      → buried_by d verb (At (Some (There o w))) ≡ b
      → back t u cs (At (Some (There new (Later verb new w)))) ≡ carried_out t (planned u cs (Some (There new (Later verb new w)))) (Some (There new (Later verb new w)))
      → raises u ≡ None
      → planned u cs (Some (There new (Later verb new w))) ≡ Some plan
      → change t plan (Some new) ≡ (Ok r2, Some o)
      → note_reach u (Some new) ≡ reach_of verb (Some o)
      → TakesBack t verb u cs (At (Some (There o w))) (slot_after t d verb (At (Some (There o w))))
  middle_back verb u cs o new w r r2 plan e bury runs none plans undone reach =
      subst (λ s. TakesBack t verb u cs (At (Some (There o w))) s) (sym is_after)
      (record {
        thing = Some (There o (Later verb new w));
        is = runs ∙ (ap (λ p. carried_out t p (Some (There new (Later verb new w)))) plans ∙ ap (λ x. if_done x.0 (rebuilt (Some (There new (Later verb new w))) x.1)) undone);
        le = λ q. subst (λ x. Le q (shown (At (Some (There o w))) q) (shown (after x (At (Some (There new (Later verb new w)))) (Some (There o (Later verb new w)))) q)) (sym none)
            (le_thing b o w (Later verb new w) d.bands refl (risen_more verb true new w.peak) refl q);
        reach = reach;
      })
    where
      is_after : slot_after t d verb (At (Some (There o w))) ≡ At (Some (There new (Later verb new w)))
      is_after = λ i. record { thing = grown d verb (is_ok (e i).0) (Some (There o w)) (e i).1; buried = bury i }

  abbrev Backs : Verb → List Before → Option Thing → Type 0
  Backs verb cs a = TakesBack t verb (noted verb a) cs (At a) (slot_after t d verb (At a))

  -- make
  made_back : (verb : Verb) (cs : List Before) (new : Object) (r : Reply) → on t verb None ≡ (Ok r, Some new) → buried_by d verb (At None) ≡ b → ((o : Option Object) → note_reach WasMake o ≡ reach_of verb None) → Backs verb cs None
  made_back verb cs new r e bury reach =
      subst (λ s. TakesBack t verb WasMake cs (At None) s) (sym (λ i. record { thing = grown d verb (is_ok (e i).0) None (e i).1; buried = bury i }))
      (record { thing = None; is = refl; le = λ q. le_of q (shown (At None) q) (shown (At None) q) refl; reach = reach (Some new) })

  -- drop
  drop_back : (cs : List Before) (o : Object) (w : Around) → b w.root ≡ None → Backs Discard cs (Some (There o w))
  drop_back cs o w free = record {
    thing = Some (There o w);
    is = ap (λ c. raised None (cond c (Some (record { dropper = d.by; thing = There o w })) (b w.root))) (eq-eqb w.root w.root refl);
    le = λ q. le_of q (shown (At (Some (There o w))) q) (shown (after (Some w.root) (slot_after t d Discard (At (Some (There o w)))) (Some (There o w))) q)
        (shown_same (At (Some (There o w))) (after (Some w.root) (slot_after t d Discard (At (Some (There o w)))) (Some (There o w))) refl (λ q. refl) (λ r. ap bared_tomb (gone r (w.root == r) refl)) q);
    reach = refl;
  }
    where
      gone : (r : ℕ) (c : Bool) → (w.root == r) ≡ c → b r ≡ cond (w.root == r) None (cond (w.root == r) (Some (record { dropper = d.by; thing = There o w })) (b r))
      gone r true e = ap b (sym (eqb-true w.root r e)) ∙ (free ∙ ap (λ x. cond x None (cond x (Some (record { dropper = d.by; thing = There o w })) (b r))) (sym e))
      gone r false e = ap (λ x. cond x None (cond x (Some (record { dropper = d.by; thing = There o w })) (b r))) (sym e)

-- ARRAYS

with_items : Row → List (List ℕ) → Row
with_items row xs = record row { items = xs }

pub push_fits : (v : List ℕ) (row : Row) → (length v == row.size) ≡ true → nat_lt (length row.items) 1048576 ≡ true → push v row ≡ (Ok (Number (length row.items)), record row { items = row.items ++ v ∷ [] })
push_fits v row e f = λ i. cond {A = Outcome × Row} (not (e i)) (Err Declined, row) (cond {A = Outcome × Row} (not (f i)) (Err TooMany, row) (Ok (Number (length row.items)), record row { items = row.items ++ v ∷ [] }))

pub push_done : (v : List ℕ) (row : Row) (r : Reply) → (push v row).0 ≡ Ok r → push v row ≡ (Ok (Number (length row.items)), record row { items = row.items ++ v ∷ [] })
push_done v row r = go (length v == row.size) (nat_lt (length row.items) 1048576)
  where
    go : (x y : Bool) → (cond {A = Outcome × Row} (not x) (Err Declined, row) (cond {A = Outcome × Row} (not y) (Err TooMany, row) (Ok (Number (length row.items)), record row { items = row.items ++ v ∷ [] }))).0 ≡ Ok r
        → cond {A = Outcome × Row} (not x) (Err Declined, row) (cond {A = Outcome × Row} (not y) (Err TooMany, row) (Ok (Number (length row.items)), record row { items = row.items ++ v ∷ [] })) ≡ (Ok (Number (length row.items)), record row { items = row.items ++ v ∷ [] })
    go true true h = refl
    go true false h = absurd (cc)
    go false y h = absurd (cc)

pop_pushed : (row : Row) (v : List ℕ) → pop (record row { items = row.items ++ v ∷ [] }) ≡ (Ok (Bytes v), row)
unfolding with_items
pop_pushed row v =
    let new : Row = record row { items = row.items ++ v ∷ [] } in
    ap (λ n. pop_at new n) (length_pushed row.items v)
    ∙ (ap (λ x. pop_item new (length row.items) x) (get_pushed row.items v) ∙ ap (λ xs. (Ok (Bytes v), with_items row xs)) (take_pushed row.items v))

pub item_fits : (i : ℕ) (decide : ℕ → List ℕ → Outcome × Option (List ℕ)) (row : Row) (x new : List ℕ) (out : Outcome) → slice_get row.items i ≡ Some x → decide row.size x ≡ (out, Some new)
    → at_item i decide row ≡ (out, record row { items = slice_set row.items i new })
item_fits i decide row x new out f g = ap (λ y. at_found i decide row y) f ∙ ap (λ (z : Outcome × Option (List ℕ)). (z.0, put_item row i z.1)) g

pub record Popped (row : Row) : Type 0 where
  pub n : ℕ
  pub item : List ℕ
  pub many : length row.items ≡ suc n
  pub last : slice_get row.items n ≡ Some item
  pub is : pop row ≡ (Ok (Bytes item), record row { items = take n row.items })

pub popped : (row : Row) (r : Reply) → (pop row).0 ≡ Ok r → Popped row
popped row r h = go (length row.items) refl (λ m e. ap (λ k. pop_at row k) e)
  where
    by_item : (n : ℕ) → length row.items ≡ suc n → pop row ≡ pop_at row (suc n) → (x : Option (List ℕ)) → slice_get row.items n ≡ x → Popped row
    by_item n e f None g = absurd (let k : (pop_item row n None).0 ≡ Ok r = ap (λ y. (pop_item row n y).0) (sym g) ∙ (sym (ap (λ (z : Outcome × Row). z.0) f) ∙ h) in cc)
    by_item n e f (Some x) g = record { n = n; item = x; many = e; last = g; is = f ∙ ap (λ y. pop_item row n y) g }

    go : (m : ℕ) → length row.items ≡ m → ((m : ℕ) → length row.items ≡ m → pop row ≡ pop_at row m) → Popped row
    go zero e f = absurd (let k : (pop_at row zero).0 ≡ Ok r = sym (ap (λ (z : Outcome × Row). z.0) (f zero e)) ∙ h in cc)
    go (suc n) e f = by_item n e (f (suc n) e) (slice_get row.items n) refl

pub record Found (i : ℕ) (decide : ℕ → List ℕ → Outcome × Option (List ℕ)) (row : Row) (r : Reply) : Type 0 where
  pub item : List ℕ
  pub there : slice_get row.items i ≡ Some item
  pub said : (decide row.size item).0 ≡ Ok r

pub found_item : (i : ℕ) (decide : ℕ → List ℕ → Outcome × Option (List ℕ)) (row : Row) (r : Reply) → (at_item i decide row).0 ≡ Ok r → Found i decide row r
found_item i decide row r = go (slice_get row.items i) refl
  where
    go : (x : Option (List ℕ)) → slice_get row.items i ≡ x → (at_found i decide row x).0 ≡ Ok r → Found i decide row r
    go None e h = absurd (cc)
    go (Some x) e h = record { item = x; there = e; said = h }

pub set_done : (v : List ℕ) (size : ℕ) (item : List ℕ) (r : Reply) → (set_to v size item).0 ≡ Ok r → set_to v size item ≡ (Ok Done, Some v)
set_done v size item r = go (length v == size)
  where
    go : (c : Bool) → (cond {A = Outcome × Option (List ℕ)} c (Ok Done, Some v) (Err Declined, None)).0 ≡ Ok r → cond {A = Outcome × Option (List ℕ)} c (Ok Done, Some v) (Err Declined, None) ≡ (Ok Done, Some v)
    go true h = refl
    go false h = absurd (cc)

pub set_fits : (v : List ℕ) (size : ℕ) (item : List ℕ) → length v ≡ size → set_to v size item ≡ (Ok Done, Some v)
set_fits v size item e = ap (λ c. cond {A = Outcome × Option (List ℕ)} c (Ok Done, Some v) (Err Declined, None)) (eq-eqb (length v) size e)

pub named_at : (t : Operations) (code : ℕ) (m : RecordMeaning) → record_named t code ≡ Some m → record_at t code ≡ Some m
named_at t code m = go (nat_lt code 65536)
  where
    go : (c : Bool) → cond c (record_at t code) None ≡ Some m → record_at t code ≡ Some m
    go true h = h
    go false h = absurd (cc)

pub law_of : (t : Operations) → AreUndone t → (code : ℕ) (m : RecordMeaning) → record_at t code ≡ Some m → IsUndoable m
law_of t law code m e = subst (λ x. IfSome x IsUndoable) e (law code)

pub record Applied (t : Operations) (code : ℕ) (arg item : List ℕ) : Type 0 where
  pub by : RecordMeaning
  pub named : record_named t code ≡ Some by
  pub there : record_at t code ≡ Some by
  pub accepted : by.accepts item arg ≡ true

pub applied : (t : Operations) (code : ℕ) (arg item : List ℕ) (r : Reply) → (done_by arg item (record_named t code)).0 ≡ Ok r → Applied t code arg item
applied t code arg item r = go (record_named t code) refl
  where
    by_test : (m : RecordMeaning) → record_named t code ≡ Some m → (c : Bool) → m.accepts item arg ≡ c → (cond {A = Outcome × Option (List ℕ)} c (Ok Done, Some (m.after item arg)) (Err Declined, None)).0 ≡ Ok r → Applied t code arg item
    by_test m e true f h = record { by = m; named = e; there = named_at t code m e; accepted = f }
    by_test m e false f h = absurd (cc)

    go : (x : Option RecordMeaning) → record_named t code ≡ x → (done_by arg item x).0 ≡ Ok r → Applied t code arg item
    go None e h = absurd (cc)
    go (Some m) e h = by_test m e (m.accepts item arg) refl h

pub unapplied : (m : RecordMeaning) (arg item : List ℕ) → m.accepts item arg ≡ true → m.before (m.after item arg) arg ≡ item → undone_by arg (m.after item arg) (Some m) ≡ (Ok Done, Some item)
unapplied m arg item a e =
    ap (λ old. cond {A = Outcome × Option (List ℕ)} (m.accepts old arg && bytes_eq (m.after old arg) (m.after item arg)) (Ok Done, Some old) (Err Declined, None)) e
    ∙ (λ i. cond {A = Outcome × Option (List ℕ)} (a i && bytes_self (m.after item arg) i) (Ok Done, Some item) (Err Declined, None))

pub short_arg : {A : Type 0} (c : Bool) (a : A) (z : Outcome × A) (r : Reply) → (cond c (Err TooLong, a) z).0 ≡ Ok r → (c ≡ false) × (z.0 ≡ Ok r)
short_arg true a z r h = absurd (cc)
short_arg false a z r h = (refl, h)

-- TABLES

pub key_fits : (k : List ℕ) (decide : Option (List ℕ) → Outcome × Update) (m : Entries) (out : Outcome) (u : Update) → (length k == 0) ≡ false → nat_lt 128 (length k) ≡ false → decide (get m k) ≡ (out, u)
    → at_key k decide m ≡ (out, updated m k u)
key_fits k decide m out u e f g = λ i. cond {A = Outcome × Entries} (e i) (Err OutOfRange, m) (cond {A = Outcome × Entries} (f i) (Err TooLong, m) ((g i).0, updated m k (g i).1))

pub record Keyed (k : List ℕ) (decide : Option (List ℕ) → Outcome × Update) (m : Entries) (r : Reply) : Type 0 where
  pub some : (length k == 0) ≡ false
  pub short : nat_lt 128 (length k) ≡ false
  pub said : (decide (get m k)).0 ≡ Ok r

pub keyed : (k : List ℕ) (decide : Option (List ℕ) → Outcome × Update) (m : Entries) (r : Reply) → (at_key k decide m).0 ≡ Ok r → Keyed k decide m r
keyed k decide m r = go (length k == 0) (nat_lt 128 (length k)) refl refl
  where
    go : (x y : Bool) → (length k == 0) ≡ x → nat_lt 128 (length k) ≡ y
        → (cond {A = Outcome × Entries} x (Err OutOfRange, m) (cond {A = Outcome × Entries} y (Err TooLong, m) ((decide (get m k)).0, updated m k (decide (get m k)).1))).0 ≡ Ok r → Keyed k decide m r
    go true y e f h = absurd (cc)
    go false true e f h = absurd (cc)
    go false false e f h = record { some = e; short = f; said = h }

pub put_done : (v : List ℕ) (x : Option (List ℕ)) (r : Reply) → (put_value v x).0 ≡ Ok r → put_value v x ≡ (Ok (put_reply x), Becomes v)
put_done v x r = go (nat_lt 1024 (length v))
  where
    go : (c : Bool) → (cond {A = Outcome × Update} c (Err TooLong, Stays) (Ok (put_reply x), Becomes v)).0 ≡ Ok r → cond {A = Outcome × Update} c (Err TooLong, Stays) (Ok (put_reply x), Becomes v) ≡ (Ok (put_reply x), Becomes v)
    go true h = absurd (cc)
    go false h = refl

pub put_fits : (v : List ℕ) (x : Option (List ℕ)) → length v ≤ 1024 → put_value v x ≡ (Ok (put_reply x), Becomes v)
put_fits v x h = ap (λ c. cond {A = Outcome × Update} c (Err TooLong, Stays) (Ok (put_reply x), Becomes v)) (lt_false 1024 (length v) h)

get_now : (m : Entries) (k v : List ℕ) → get (insert m k v) k ≡ Some v
get_now m k v = get_put m k v k ∙ ap (λ c. cond c (Some v) (get m k)) (bytes_self k)

-- the verbs

module _ (t : Operations) (law : AreUndone t) (d : Did) (b : ℕ → Option Tomb) (cs : List Before) where
  abbrev Said : Verb → Object → Reply → Type 0
  Said verb o r = (on t verb (Some o)).0 ≡ Ok r

  push_back : (v : List ℕ) (row : Row) (w : Around) (r : Reply) → Said (Push v) (Array row) r → Backs t d b (Push v) cs (Some (There (Array row) w))
  push_back v row w r h =
      let new : Row = record row { items = row.items ++ v ∷ [] } in
      let e = push_done v row r h in
      middle_back t d b (Push v) WasPush cs (Array row) (Array new) w (Number (length row.items)) (Bytes v) TakeLast
      (ap (λ (x : Outcome × Row). (x.0, Some (Array x.1))) e) refl refl refl refl
      (ap (λ (x : Outcome × Row). (x.0, Some (Array x.1))) (pop_pushed row v))
      (ap (λ n. to_read (Just Kind) ∷ to_write (Just Length) ∷ last_item n) (length_pushed row.items v))

  pop_back : (row : Row) (w : Around) (r : Reply) → IsFormedThing (There (Array row) w) → Said Pop (Array row) r → Backs t d b Pop cs (Some (There (Array row) w))
  pop_back row w r formed h =
      let p = popped row r h in
      let new : Row = record row { items = take p.n row.items } in
      let short : length new.items ≡ p.n = length_take row.items p.n p.many in
      let note : noted_last (length row.items) row ≡ WasPop p.item = ap (λ m. noted_last m row) p.many ∙ ap noted_popped p.last in
      let low : p.n < w.peak = below (length row.items) p.n w.peak p.many formed.0 in
      subst (λ u. TakesBack t Pop u cs (At t d b (Some (There (Array row) w))) (slot_after t d Pop (At t d b (Some (There (Array row) w))))) (sym note)
      (middle_back t d b Pop (WasPop p.item) cs (Array row) (Array new) w (Bytes p.item) (Number (length new.items)) (Append p.item)
      (ap (λ (x : Outcome × Row). (x.0, Some (Array x.1))) p.is) refl refl refl
      (ap (λ c. cond c (Some (Append p.item)) None) (lt_true (length new.items) (max w.peak (length new.items)) (room (length new.items) p.n w.peak short low)))
      (ap (λ (x : Outcome × Row). (x.0, Some (Array x.1)))
      (push_fits p.item new (eq-eqb (length p.item) row.size (formed.2 p.n p.item p.last).0) (lt_true (length new.items) 1048576 (few (length new.items) p.n w.peak short low formed.1))
      ∙ ap (λ xs. (Ok (Number (length new.items)), record row { items = xs })) (take_last row.items p.n p.item p.many p.last)))
      ((λ i. to_read (Just Kind) ∷ to_write (Just Length) ∷ to_write (Just (Item (short i))) ∷ []) ∙ ap (λ n. to_read (Just Kind) ∷ to_write (Just Length) ∷ last_item n) (sym p.many)))
    where
      below : (m n k : ℕ) → m ≡ suc n → m ≤ k → n < k
      below m n k e f = omega (arith, e, f)

      room : (m n k : ℕ) → m ≡ n → n < k → m < max k m
      room m n k e f = omega (arith, e, f)

      few : (m n k : ℕ) → m ≡ n → n < k → k ≤ 1048576 → m < 1048576
      few m n k e f g = omega (arith, e, f, g)

  set_back_verb : (i : ℕ) (v : List ℕ) (row : Row) (w : Around) (r : Reply) → IsFormedThing (There (Array row) w) → Said (Set i v) (Array row) r → Backs t d b (Set i v) cs (Some (There (Array row) w))
  set_back_verb i v row w r formed h =
      let f = found_item i (set_to v) row r h in
      let new : Row = record row { items = slice_set row.items i v } in
      subst (λ u. TakesBack t (Set i v) u cs (At t d b (Some (There (Array row) w))) (slot_after t d (Set i v) (At t d b (Some (There (Array row) w))))) (sym (ap (noted_item i) f.there))
      (middle_back t d b (Set i v) (WasSet i f.item) cs (Array row) (Array new) w Done Done (Replace i f.item)
      (ap (λ (x : Outcome × Row). (x.0, Some (Array x.1))) (item_fits i (set_to v) row f.item v (Ok Done) f.there (set_done v row.size f.item r f.said))) refl refl refl refl
      (ap (λ (x : Outcome × Row). (x.0, Some (Array x.1)))
      (item_fits i (set_to f.item) new v f.item (Ok Done) (get_set row.items i f.item v f.there) (set_fits f.item row.size v (formed.2 i f.item f.there).0)
      ∙ ap (λ xs. (Ok Done, record row { items = xs })) (set_back row.items i v f.item f.there)))
      refl)

  apply_back : (i code : ℕ) (arg : List ℕ) (row : Row) (w : Around) (r : Reply) → IsFormedThing (There (Array row) w) → IsBytes arg → Said (Apply i code arg) (Array row) r → Backs t d b (Apply i code arg) cs (Some (There (Array row) w))
  apply_back i code arg row w r formed bytes h =
      let doing = λ (size : ℕ) (item : List ℕ). done_by arg item (record_named t code) in
      let undoing = λ (size : ℕ) (item : List ℕ). undone_by arg item (record_at t code) in
      let s = short_arg (nat_lt 256 (length arg)) row (at_item i doing row) r h in
      let f = found_item i doing row r s.1 in
      let a = applied t code arg f.item r f.said in
      let v = a.by.after f.item arg in
      let new : Row = record row { items = slice_set row.items i v } in
      middle_back t d b (Apply i code arg) (WasApply i code arg) cs (Array row) (Array new) w Done Done (Reverse i code arg)
      (ap (λ (x : Outcome × Row). (x.0, Some (Array x.1)))
      (ap (λ c. cond c (Err TooLong, row) (at_item i doing row)) s.0
      ∙ item_fits i doing row f.item v (Ok Done) f.there (ap (λ m. done_by arg f.item m) a.named ∙ ap (λ c. cond {A = Outcome × Option (List ℕ)} c (Ok Done, Some v) (Err Declined, None)) a.accepted))) refl refl refl refl
      (ap (λ (x : Outcome × Row). (x.0, Some (Array x.1)))
      (ap (λ c. cond c (Err TooLong, new) (at_item i undoing new)) s.0
      ∙ (item_fits i undoing new v f.item (Ok Done) (get_set row.items i f.item v f.there)
      (ap (λ m. undone_by arg v m) a.there ∙ unapplied a.by arg f.item a.accepted ((law_of t law code a.by a.there).undoes f.item arg (formed.2 i f.item f.there).1 bytes a.accepted))
      ∙ ap (λ xs. (Ok Done, record row { items = xs })) (set_back row.items i v f.item f.there))))
      refl

  put_back_verb : (k v : List ℕ) (m : Entries) (w : Around) (r : Reply) → IsFormedThing (There (Table m) w) → Said (Put k v) (Table m) r → Backs t d b (Put k v) cs (Some (There (Table m) w))
  put_back_verb k v m w r formed h =
      let e = keyed k (put_value v) m r h in
      let is = key_fits k (put_value v) m (Ok (put_reply (get m k))) (Becomes v) e.some e.short (put_done v (get m k) r e.said) in
      go (get m k) refl e.some e.short is
    where
      go : (x : Option (List ℕ)) → get m k ≡ x → (length k == 0) ≡ false → nat_lt 128 (length k) ≡ false → at_key k (put_value v) m ≡ (Ok (put_reply (get m k)), insert m k v) → Backs t d b (Put k v) cs (Some (There (Table m) w))
      go None f some short is =
          subst (λ u. TakesBack t (Put k v) u cs (At t d b (Some (There (Table m) w))) (slot_after t d (Put k v) (At t d b (Some (There (Table m) w))))) (sym (ap (noted_put k) f))
          (middle_back t d b (Put k v) (WasPut k) cs (Table m) (Table (insert m k v)) w (put_reply (get m k)) Done (Forget k)
          (ap (λ (x : Outcome × Entries). (x.0, Some (Table x.1))) is) refl refl refl refl
          (ap (λ (x : Outcome × Entries). (x.0, Some (Table x.1))) (key_fits k forget (insert m k v) (Ok Done) Goes some short (ap forget (get_now m k v)) ∙ ap (λ y. (Ok Done, y)) (un_new m k v f)))
          refl)
      go (Some old) f some short is =
          subst (λ u. TakesBack t (Put k v) u cs (At t d b (Some (There (Table m) w))) (slot_after t d (Put k v) (At t d b (Some (There (Table m) w))))) (sym (ap (noted_put k) f))
          (middle_back t d b (Put k v) (WasOver k old) cs (Table m) (Table (insert m k v)) w (put_reply (get m k)) (put_reply (get (insert m k v) k)) (Restore k old)
          (ap (λ (x : Outcome × Entries). (x.0, Some (Table x.1))) is) refl refl refl refl
          (ap (λ (x : Outcome × Entries). (x.0, Some (Table x.1)))
          (key_fits k (put_value old) (insert m k v) (Ok (put_reply (get (insert m k v) k))) (Becomes old) some short (put_fits old (get (insert m k v) k) (formed k old f).2)
          ∙ ap (λ y. (Ok (put_reply (get (insert m k v) k)), y)) (un_put m k v old f)))
          refl)

  del_back : (k : List ℕ) (m : Entries) (w : Around) (r : Reply) → IsFormedThing (There (Table m) w) → (noted (Del k) (Some (There (Table m) w)) ≡ WasNothing → ⊥) → Said (Del k) (Table m) r → Backs t d b (Del k) cs (Some (There (Table m) w))
  del_back k m w r formed some h = go (get m k) refl (keyed k del_value m r h)
    where
      go : (x : Option (List ℕ)) → get m k ≡ x → Keyed k del_value m r → Backs t d b (Del k) cs (Some (There (Table m) w))
      go None f e = absurd (some (ap (noted_del k) f))
      go (Some old) f e =
          subst (λ u. TakesBack t (Del k) u cs (At t d b (Some (There (Table m) w))) (slot_after t d (Del k) (At t d b (Some (There (Table m) w))))) (sym (ap (noted_del k) f))
          (middle_back t d b (Del k) (WasOver k old) cs (Table m) (Table (remove m k)) w Done (put_reply (get (remove m k) k)) (Restore k old)
          (ap (λ (x : Outcome × Entries). (x.0, Some (Table x.1))) (key_fits k del_value m (Ok Done) Goes e.some e.short (ap del_value f))) refl refl refl refl
          (ap (λ (x : Outcome × Entries). (x.0, Some (Table x.1)))
          (key_fits k (put_value old) (remove m k) (Ok (put_reply (get (remove m k) k))) (Becomes old) e.some e.short (put_fits old (get (remove m k) k) (formed k old f).2)
          ∙ ap (λ y. (Ok (put_reply (get (remove m k) k)), y)) (un_del m k old f)))
          refl)

  -- byte 9
  bytes_back : (verb : Verb) (f : List ℕ → Outcome × List ℕ) (x : List ℕ) (w : Around) (r : Reply) → IsFormedThing (There (Blob x) w) → (f x).0 ≡ Ok r
      → on t verb (Some (Blob x)) ≡ ((f x).0, Some (Blob (f x).1)) → buried_by d verb (At t d b (Some (There (Blob x) w))) ≡ b → ((y : List ℕ) → risen verb true (Blob y) w.peak ≡ max w.peak (length y))
      → reach_of (Size (length x)) (Some (Blob (f x).1)) ≡ reach_of verb (Some (Blob x))
      → PutsBack (w.bands ++ d.bands) cs (f x).1 x
      → TakesBack t verb (WasBytes (length x)) cs (At t d b (Some (There (Blob x) w))) (slot_after t d verb (At t d b (Some (There (Blob x) w))))
  bytes_back verb f x w r formed h e bury peak reach puts =
      let y = (f x).1 in
      middle_back t d b verb (WasBytes (length x)) cs (Blob x) (Blob y) w r Done (Lay (length x) puts.patches)
      (e ∙ ap (λ o. (o, Some (Blob y))) h) bury refl refl
      (ap (λ c. cond c (lay_plan (length x) (located (w.bands ++ d.bands) cs)) None) (le_true (length x) (risen verb true (Blob y) w.peak) (le_trans formed (risen_more verb true (Blob y) w.peak)))
      ∙ ap (λ p. lay_plan (length x) p) puts.at_bands)
      (ap (λ (z : Outcome × List ℕ). (z.0, Some (Blob z.1))) (ap (λ c. cond {A = Outcome × List ℕ} c (Ok Done, padded (length x) (all_laid puts.patches y)) (Err OutOfRange, y)) puts.zeros ∙ ap (λ z. (Ok Done, z)) puts.same))
      reach

  made_array : (n : ℕ) (r : Reply) → (on t (MakeArray n) None).0 ≡ Ok r → Backs t d b (MakeArray n) cs None
  made_array n r = go (nat_le 1 n && nat_le n 256) refl
    where
      go : (c : Bool) → (nat_le 1 n && nat_le n 256) ≡ c → (cond {A = Outcome × Option Object} c (Ok Done, Some (Array (record { size = n; items = [] }))) (Err OutOfRange, None)).0 ≡ Ok r → Backs t d b (MakeArray n) cs None
      go true e h = made_back t d b (MakeArray n) cs (Array (record { size = n; items = [] })) Done (ap (λ c. cond {A = Outcome × Option Object} c (Ok Done, Some (Array (record { size = n; items = [] }))) (Err OutOfRange, None)) e) refl (λ o. refl)
      go false e h = absurd (cc)

  abbrev Changes : Verb → Option Thing → Type 0
  Changes verb a = noted verb a ≡ WasNothing → ⊥

  -- EVERY verb that got a reply and changed something is taken back by its note
  verb_back : (verb : Verb) (a : Option Thing) (r : Reply) → BringsBytes verb → IsFormed a → IsRootFree a b → (on t verb (plain a)).0 ≡ Ok r → Changes verb a → PutsBackOf t verb d.bands cs a → Backs t d b verb cs a
  verb_back (MakeArray n) None r y f z h c p = made_array n r h
  verb_back MakeTable None r y f z h c p = made_back t d b MakeTable cs (Table empty) Done refl refl (λ o. refl)
  verb_back MakeBlob None r y f z h c p = made_back t d b MakeBlob cs (Blob []) Done refl refl (λ o. refl)
  verb_back Discard (Some (There o w)) r y f z h c p = drop_back t d b cs o w z
  verb_back (Push v) (Some (There (Array row) w)) r y f z h c p = push_back v row w r h
  verb_back Pop (Some (There (Array row) w)) r y f z h c p = pop_back row w r f h
  verb_back (Set i v) (Some (There (Array row) w)) r y f z h c p = set_back_verb i v row w r f h
  verb_back (Apply i code arg) (Some (There (Array row) w)) r y f z h c p = apply_back i code arg row w r f y h
  verb_back (Put k v) (Some (There (Table m) w)) r y f z h c p = put_back_verb k v m w r f h
  verb_back (Del k) (Some (There (Table m) w)) r y f z h c p = del_back k m w r f c h
  verb_back (Write from bytes) (Some (There (Blob x) w)) r y f z h c p = bytes_back (Write from bytes) (write from bytes) x w r f h refl refl (λ y. refl) refl p
  verb_back (Size n) (Some (There (Blob x) w)) r y f z h c p = bytes_back (Size n) (resize n) x w r f h refl refl (λ y. refl) refl p
  verb_back (Paint from count code arg) (Some (There (Blob x) w)) r y f z h c p = bytes_back (Paint from count code arg) (paint t from count code arg) x w r f h refl refl (λ y. refl) refl p
  verb_back (Get i) (Some (There (Array row) w)) r y f z h c p = absurd (c refl)
  verb_back Len (Some (There (Array row) w)) r y f z h c p = absurd (c refl)
  verb_back Len (Some (There (Blob x) w)) r y f z h c p = absurd (c refl)
  verb_back (Find k) (Some (There (Table m) w)) r y f z h c p = absurd (c refl)
  verb_back Keys (Some (There (Table m) w)) r y f z h c p = absurd (c refl)
  verb_back (Read from count) (Some (There (Blob x) w)) r y f z h c p = absurd (c refl)
  verb_back verb a r y f z h c p = absurd (cc)

-- THE TOP-END: undone from where a verb left it, in any slot that shows this, its note leaves no less than there was
pub verb_undone : (t : Operations) → AreUndone t → (d : Did) (verb : Verb) (cs : List Before) (s now : Slot) (r : Reply) → BringsBytes verb → IsFormedSlot s → (on t verb (plain s.thing)).0 ≡ Ok r → (noted verb s.thing ≡ WasNothing → ⊥)
    → PutsBackOf t verb d.bands cs s.thing
    → ((q : Part) → any_touch writes_part (reach_of verb (plain s.thing)) q ≡ true → shown now q ≡ shown (slot_after t d verb s) q)
    → ((q : Part) → any_touch writes_part (reach_of verb (plain s.thing)) q ≡ false → shown now q ≡ shown s q)
    → TakesBack t verb (noted verb s.thing) cs s now
verb_undone t law d verb cs s now r bytes formed h changes puts written rest =
    let u = noted verb s.thing in
    let left = slot_after t d verb s in
    let k : TakesBack t verb u cs s left = verb_back t law d s.buried cs verb s.thing r bytes formed.0 formed.1 h changes puts in
    let to_verb : (q : Part) → writes_of u left q ≡ any_touch writes_part (reach_of verb (plain s.thing)) q = λ q. ap (λ rs. any_touch writes_part rs q) k.reach in
    let same : (q : Part) → writes_of u left q ≡ true → shown left q ≡ shown now q = λ q w. sym (written q (sym (to_verb q) ∙ w)) in
    let l : SlotUndone t u cs left k.thing now = slot_local t u cs left now k.thing k.is (λ q w. le_of q (shown left q) (shown now q) (same q w)) in
    record {
      thing = l.end;
      is = l.is;
      le = λ q. true_or_false (any_touch writes_part (reach_of verb (plain s.thing)) q) (Le q (shown s q) (shown (after (raises u) now l.end) q))
          (λ w. subst (λ x. Le q (shown s q) x) (same_is q (shown (after (raises u) left k.thing) q) (shown (after (raises u) now l.end) q)
          (l.exact (λ p x. same_of p (shown left p) (shown now p) (same p x)) q (to_verb q ∙ w))) (k.le q))
          (λ z. le_of q (shown s q) (shown (after (raises u) now l.end) q) (sym (l.outer q (to_verb q ∙ z) ∙ rest q z)));
      reach = l.same ∙ k.reach;
    }
