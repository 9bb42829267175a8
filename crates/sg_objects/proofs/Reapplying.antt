-- What undoes a registered operation on an item.
use Rattle.std.proofs.Common.{◌≡◌, ℕ, ◌≤◌, ◌&&◌, Bool, true, false, cond, List, [], length, Option, Some, None, Ok, Err, IsTrue, IfSome, refl, sym, ap, ◌∙◌, subst, arith, inl, inr, slice_get, slice_set}
use Rattle.std.specs.Prelude.{nat_lt}
use Rattle.std.specs.Str.{bytes_eq}
use Rattle.std.specs.FinMap.{get}
use Rattle.std.proofs.lemmas.Bool.{cases_lt}
use Rattle.std.proofs.lemmas.Bool.Decides.{nat_tests}
use Rattle.std.proofs.lemmas.Slice.Eq.{bytes_eq-Decides}
use Rattle.sg_base.specs.Bytes.{IsBytes}
use Rattle.sg_base.specs.Sheet.{Sheet}
use Rattle.sg_ops.specs.Meaning.{RecordMeaning, IsUndoable}
use Rattle.sg_ops.specs.Table.{Table as Operations, record_at, accepts_of, after_of, before_of}
use Rattle.sg_array.specs.Array.{Array, IsArray}
use Rattle.sg_array.specs.Calls as array
use Rattle.sg_catalog.specs.declared.row.ObjectKind.TheVariants as kinds
use Rattle.sg_model.specs.declared.reason.Reason.{Reason}
use Rattle.sg_model.specs.declared.reason.Reason.TheVariants.{TooLong, OutOfRange, NoOperation, Declined}
use Rattle.sg_model.specs.Objects.{Row as Items}
use Rattle.sg_model.specs.Objects.Object.{Array as AsArray}
use Rattle.sg_model.specs.Step.{at_item, at_found, put_item}
use Rattle.sg_model.specs.Verb.{Outcome, Reply}
use Rattle.sg_model.specs.Verb.Reply.{Done}
use Rattle.sg_space.specs.View.{Space}
use Rattle.sg_reading.specs.Reading.{Thing}
use Rattle.sg_reading.specs.Reading.Thing.{There}
use Rattle.sg_reading.specs.Back.{unapply, undone_by}
use Rattle.sg_reading.specs.Back.Undoing.{WasApply}
use Rattle.sg_contents.specs.Standing.{Contents, IsContents}
use Rattle.sg_contents.specs.Standing.Body.{AnArray}
use Rattle.sg_contents.specs.Changes.{with_body}
use Rattle.sg_contents.specs.Meaning.{reading}
use Rattle.sg_objects.specs.Found.{IsAt}
use Rattle.sg_objects.specs.Undone.{IsUndone}
use Rattle.sg_objects.proofs.Doing.{same_taken}
use Rattle.sg_objects.proofs.Pushing.{items_of}
use Rattle.sg_objects.proofs.Undoing.{carried, carried_at, array_undone}

-- the operation's undo was accepted: it gives the item from which this one was left
pub record WasLeft (t : Operations) (i code : ℕ) (arg : List ℕ) (row : Items) : Type 0 where
  pub short : length arg ≤ 256
  pub item : List ℕ
  pub is : slice_get row.items i ≡ Some item
  pub by : RecordMeaning
  pub registered : record_at t code ≡ Some by
  pub accepted : by.accepts (by.before item arg) arg ≡ true
  pub left : by.after (by.before item arg) arg ≡ item
  pub after : (unapply t i code arg row).1 ≡ record row { items = slice_set row.items i (by.before item arg) }

both_are : (a b : Bool) → (a && b) ≡ true → (a ≡ true) × (b ≡ true)
both_are true b e = (refl, e)
both_are false b e = absurd (cc)

not_err : {A : Type 0} (reply : Reply) (reason : Reason) → ◌≡◌ {A = Outcome} (Err reason) (Ok reply) → A
not_err reply reason e = absurd (cc)

module _ (t : Operations) (i code : ℕ) (arg : List ℕ) (row : Items) (reply : Reply) where
  one : Option RecordMeaning → List ℕ → Outcome × Items
  one o item = let r = undone_by arg item o in (r.0, put_item row i r.1)

  by_tests : (short : length arg ≤ 256) (item : List ℕ) → slice_get row.items i ≡ Some item → (m : RecordMeaning) → record_at t code ≡ Some m → (unapply t i code arg row ≡ (let r = undone_by arg item (Some m) in (r.0, put_item row i r.1))) → (b : Bool) → (m.accepts (m.before item arg) arg && bytes_eq (m.after (m.before item arg) arg) item) ≡ b → (unapply t i code arg row).0 ≡ Ok reply → WasLeft t i code arg row
  by_tests short item is m reg all true e ok =
      let two = both_are (m.accepts (m.before item arg) arg) (bytes_eq (m.after (m.before item arg) arg) item) e in
      record {
        short = short;
        item = item;
        is = is;
        by = m;
        registered = reg;
        accepted = two.0;
        left = (bytes_eq-Decides (m.after (m.before item arg) arg) item).0 two.1;
        after = ap (λ (r : Outcome × Items). r.1) all ∙ ap (λ (b : Bool). (let r : Outcome × Option (List ℕ) = cond b (Ok Done, Some (m.before item arg)) (Err Declined, None) in put_item row i r.1)) e;
      }
  by_tests short item is m reg all false e ok =
      not_err reply Declined (sym (ap (λ (b : Bool). (let r : Outcome × Option (List ℕ) = cond b (Ok Done, Some (m.before item arg)) (Err Declined, None) in r.0)) e) ∙ (sym (ap (λ (r : Outcome × Items). r.0) all) ∙ ok))

  by_operation : (short : length arg ≤ 256) (item : List ℕ) → slice_get row.items i ≡ Some item → (o : Option RecordMeaning) → record_at t code ≡ o → (unapply t i code arg row ≡ (let r = undone_by arg item o in (r.0, put_item row i r.1))) → (unapply t i code arg row).0 ≡ Ok reply → WasLeft t i code arg row
  by_operation short item is None reg all ok = not_err reply NoOperation (sym (ap (λ (r : Outcome × Items). r.0) all) ∙ ok)
  by_operation short item is (Some m) reg all ok = by_tests short item is m reg all (m.accepts (m.before item arg) arg && bytes_eq (m.after (m.before item arg) arg) item) refl ok

  by_item : length arg ≤ 256 → (o : Option (List ℕ)) → slice_get row.items i ≡ o → unapply t i code arg row ≡ at_found i (λ size item. undone_by arg item (record_at t code)) row o → (unapply t i code arg row).0 ≡ Ok reply → WasLeft t i code arg row
  by_item short None is all ok = not_err reply OutOfRange (sym (ap (λ (r : Outcome × Items). r.0) all) ∙ ok)
  by_item short (Some item) is all ok = by_operation short item is (record_at t code) refl all ok

  pub was_left : (unapply t i code arg row).0 ≡ Ok reply → WasLeft t i code arg row
  was_left ok = elim (cases_lt 256 (length arg)) [
    | inl long ↦ (
        let test : nat_lt 256 (length arg) ≡ true = grind (arith, nat_tests) in
        not_err reply TooLong (sym (ap (λ (b : Bool). (cond {A = Outcome × Items} b (Err TooLong, row) (at_item i (λ size item. undone_by arg item (record_at t code)) row)).0) test) ∙ ok))
    | inr short ↦ (
        let test : nat_lt 256 (length arg) ≡ false = grind (arith, nat_tests) in
        by_item short (slice_get row.items i) refl (ap (λ (b : Bool). cond {A = Outcome × Items} b (Err TooLong, row) (at_item i (λ size item. undone_by arg item (record_at t code)) row)) test) ok)
  ]

accepted_by : (o : Option RecordMeaning) (m : RecordMeaning) (item arg : List ℕ) → o ≡ Some m → m.accepts item arg ≡ true → IsTrue (accepts_of o item arg)
unfolding accepts_of
accepted_by o m item arg e holds = subst (λ (x : Option RecordMeaning). IsTrue (accepts_of x item arg)) (sym e) holds

after_by : (o : Option RecordMeaning) (m : RecordMeaning) (item arg : List ℕ) → o ≡ Some m → after_of o item arg ≡ m.after item arg
unfolding after_of
after_by o m item arg e = ap (λ (x : Option RecordMeaning). after_of x item arg) e

before_by : (o : Option RecordMeaning) (m : RecordMeaning) (item arg : List ℕ) → o ≡ Some m → before_of o item arg ≡ m.before item arg
unfolding before_of
before_by o m item arg e = ap (λ (x : Option RecordMeaning). before_of x item arg) e

pub can_reapply : {pages : ℕ → Option Sheet} {root : ℕ} {t : Operations} {i code : ℕ} {arg : List ℕ} {a : Array} → IsArray pages root a → ((m : RecordMeaning) → record_at t code ≡ Some m → IsUndoable m) → IsBytes arg → WasLeft t i code arg (items_of a) → array.CanApplyBack t i code arg a
can_reapply {pages} {root} {t} {i} {code} {arg} {a} arr law bytes w =
    let each = (((arr.built).limits).each i w.item w.is).bytes in
    record {
      item = w.item;
      is = w.is;
      left = record {
        item = (w.by).before w.item arg;
        bytes = (law w.by w.registered).undo_leaves_bytes w.item arg each bytes;
        accepted = accepted_by (record_at t code) w.by ((w.by).before w.item arg) arg w.registered w.accepted;
        left = sym (after_by (record_at t code) w.by ((w.by).before w.item arg) arg w.registered ∙ w.left);
      };
    }

pub undo_apply_done : {old new : Space} {s : Contents} {root : ℕ} {a a' : Array} (t : Operations) (name : List ℕ) (i code : ℕ) (arg : List ℕ) (th : Option Thing) → IsContents old s → (f : IsAt kinds.Array s name root) → s.body root ≡ AnArray a → carried (unapply t i code arg) (get (reading s).things name) ≡ Some th → WasLeft t i code arg (items_of a) → array.Turns old new root a a' → array.IsAppliedBack t i code arg a a' → IsUndone (WasApply i code arg) name old new s th (with_body root (AnArray a') s)
undo_apply_done {old} {new} {s} {root} {a} {a'} t name i code arg th h f is e w turns p =
    let c = carried_at (unapply t i code arg) th f is e in
    array_undone (WasApply i code arg) refl name th (record { size = a.size; items = slice_set a.items i ((w.by).before w.item arg) }) h f is turns
    (c.th_is ∙ ap (λ (r : Items). Some (There (AsArray r) (record { root = root; peak = a.peak; bands = [] }))) w.after)
    (p.same).size (p.items w.item w.is ∙ ap (slice_set a.items i) (before_by (record_at t code) w.by w.item arg w.registered)) (p.same).peak (same_taken turns p.same)

pub law_at : (t : Operations) (code : ℕ) → IfSome (record_at t code) IsUndoable → (m : RecordMeaning) → record_at t code ≡ Some m → IsUndoable m
law_at t code law m e = subst (λ (o : Option RecordMeaning). IfSome o IsUndoable) e law
