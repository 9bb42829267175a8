-- What a registered operation on an item comes to.
use Rattle.std.proofs.Common.{◌≡◌, ℕ, ◌<◌, ◌≤◌, Bool, true, false, cond, List, [], length, Option, Some, None, Ok, Err, IsTrue, is_some, refl, sym, ap, ◌∙◌, subst, arith, slice_get, slice_set, length-set}
use Rattle.std.specs.Prelude.{nat_lt}
use Rattle.std.specs.FinMap.{get}
use Rattle.std.proofs.lemmas.Bool.Decides.{nat_tests}
use Rattle.sg_ops.specs.Meaning.{RecordMeaning}
use Rattle.sg_ops.specs.Table.{Table as Operations, record_at, accepts_of, after_of}
use Rattle.sg_array.specs.Array.{Array, IsArray}
use Rattle.sg_array.specs.Calls as array
use Rattle.sg_model.specs.declared.reason.Reason.{Reason}
use Rattle.sg_model.specs.declared.reason.Reason.TheVariants.{Declined, NoOperation, OutOfRange, TooLong}
use Rattle.sg_model.specs.Objects.{Row as Items}
use Rattle.sg_model.specs.Step.{on, apply, at_item, at_found, done_by, record_named, put_item}
use Rattle.sg_model.specs.Verb.{Verb, Outcome}
use Rattle.sg_model.specs.Verb.Verb.{Apply}
use Rattle.sg_model.specs.Verb.Reply.{Done}
use Rattle.sg_space.specs.View.{View, Space, OnlyReads}
use Rattle.sg_reading.specs.Reading.{plain}
use Rattle.sg_reading.specs.Back.Undoing.{WasApply}
use Rattle.sg_contents.specs.Standing.{Contents, IsContents}
use Rattle.sg_contents.specs.Standing.Body.{AnArray}
use Rattle.sg_contents.specs.Changes.{with_body}
use Rattle.sg_contents.specs.Meaning.{reading}
use Rattle.sg_objects.specs.Done.{Did, IsDone}
use Rattle.sg_space.proofs.Known.{same_some}
use Rattle.sg_objects.specs.Found.{IsArrayAt, CanApplyTo, CheckedBy}
use Rattle.sg_objects.specs.Notes.{note_bytes}
use Rattle.sg_objects.specs.declared.find.ArrayAt.{ArrayAt}
use Rattle.sg_objects.proofs.Pushing.{items_of}
use Rattle.sg_objects.proofs.Items.{max_same, none_past, some_there}
use Rattle.sg_objects.proofs.Others.{changed}
use Rattle.sg_objects.proofs.Bodies.{noted_some}
use Rattle.sg_objects.proofs.Doing.{array_done, same_taken}
use Rattle.sg_objects.proofs.Checks.{refuses_array}
use Rattle.sg_objects.proofs.Refused.{refused}

-- what the operation gives, by whether it accepts
done_is : (o : Option RecordMeaning) (item arg : List ℕ) → IsTrue (accepts_of o item arg) → done_by arg item o ≡ (Ok Done, Some (after_of o item arg))
unfolding accepts_of after_of
done_is None item arg e = absurd (cc)
done_is (Some m) item arg e = ap (λ (b : Bool). (let r : Outcome × Option (List ℕ) = cond b (Ok Done, Some (m.after item arg)) (Err Declined, None) in r)) e

declined_is : (o : Option RecordMeaning) (item arg : List ℕ) → is_some o ≡ true → accepts_of o item arg ≡ false → done_by arg item o ≡ (Err Declined, None)
unfolding accepts_of
declined_is None item arg s e = absurd (cc)
declined_is (Some m) item arg s e = ap (λ (b : Bool). (let r : Outcome × Option (List ℕ) = cond b (Ok Done, Some (m.after item arg)) (Err Declined, None) in r)) e

no_operation : (o : Option RecordMeaning) → is_some o ≡ false → o ≡ None
no_operation None e = refl
no_operation (Some m) e = absurd (cc)

pub named_at : (t : Operations) (code : ℕ) → code < 65536 → record_named t code ≡ record_at t code
named_at t code small =
    let test : nat_lt code 65536 ≡ true = grind (arith, nat_tests) in
    ap (λ (b : Bool). cond b (record_at t code) None) test

module _ (t : Operations) (index code : ℕ) (arg : List ℕ) (row : Items) where
  -- once the argument is short enough
  pub short_apply : length arg ≤ 256 → apply t index code arg row ≡ at_item index (λ size item. done_by arg item (record_named t code)) row
  short_apply short =
      let test : nat_lt 256 (length arg) ≡ false = grind (arith, nat_tests) in
      ap (λ (b : Bool). cond {A = Outcome × Items} b (Err TooLong, row) (at_item index (λ size item. done_by arg item (record_named t code)) row)) test

  pub long_apply : 256 < length arg → (apply t index code arg row).0 ≡ Err TooLong
  long_apply long =
      let test : nat_lt 256 (length arg) ≡ true = grind (arith, nat_tests) in
      ap (λ (b : Bool). (cond {A = Outcome × Items} b (Err TooLong, row) (at_item index (λ size item. done_by arg item (record_named t code)) row)).0) test

  pub past_apply : length arg ≤ 256 → length row.items ≤ index → (apply t index code arg row).0 ≡ Err OutOfRange
  past_apply short past = ap (λ (r : Outcome × Items). r.0) (short_apply short) ∙ ap (λ (o : Option (List ℕ)). (at_found index (λ size item. done_by arg item (record_named t code)) row o).0) (none_past row.items index past)

  at_there : (item : List ℕ) → length arg ≤ 256 → slice_get row.items index ≡ Some item → apply t index code arg row ≡ (let r = done_by arg item (record_named t code) in (r.0, put_item row index r.1))
  at_there item short is = short_apply short ∙ ap (at_found index (λ size item. done_by arg item (record_named t code)) row) is

  pub unnamed_apply : length arg ≤ 256 → index < length row.items → record_named t code ≡ None → (apply t index code arg row).0 ≡ Err NoOperation
  unnamed_apply short below none =
      let one = some_there row.items index below in
      ap (λ (r : Outcome × Items). r.0) (at_there one.0 short one.1) ∙ ap (λ (o : Option RecordMeaning). (done_by arg one.0 o).0) none

  pub declined_apply : (item : List ℕ) → length arg ≤ 256 → slice_get row.items index ≡ Some item → code < 65536 → is_some (record_at t code) ≡ true → accepts_of (record_at t code) item arg ≡ false → (apply t index code arg row).0 ≡ Err Declined
  declined_apply item short is small there e =
      ap (λ (r : Outcome × Items). r.0) (at_there item short is)
      ∙ (ap (λ (o : Option RecordMeaning). (done_by arg item o).0) (named_at t code small)
      ∙ ap (λ (r : Outcome × Option (List ℕ)). r.0) (declined_is (record_at t code) item arg there e))

  pub apply_row : (item : List ℕ) → length arg ≤ 256 → slice_get row.items index ≡ Some item → code < 65536 → IsTrue (accepts_of (record_at t code) item arg) → apply t index code arg row ≡ (Ok Done, record row { items = slice_set row.items index (after_of (record_at t code) item arg) })
  apply_row item short is small e =
      at_there item short is
      ∙ ap (λ (r : Outcome × Option (List ℕ)). (let q : Outcome × Items = (r.0, put_item row index r.1) in q)) (ap (done_by arg item) (named_at t code small) ∙ done_is (record_at t code) item arg e)

-- a verb that was refused, by what the table says
pub refused_by : {v w : View} {Can : Contents → Type 0} (t : Operations) (by : ℕ) (name : List ℕ) (verb : Verb) (reason : Reason) (note : List ℕ) → (v.Told → v.Shows) → OnlyReads v w → note ≡ [] → (v.Shows → (s : Contents) → IsContents v.space s → (on t verb (plain (get (reading s).things name))).0 ≡ Err reason) → Did v w Can (IsDone t by name verb (Err reason) note v.space w.space)
refused_by t by name verb reason note shown k none is = record {
  told = λ told. k.keeps.told told;
  done = λ told s h can. (s, refused t by name verb reason note k (shown told) h (is (shown told) s h) none);
}

pub can_apply : {t : Operations} {name : List ℕ} {i code : ℕ} {arg : List ℕ} {s : Contents} {x : ArrayAt} (f : CanApplyTo t name i code arg s x) → array.CanApply t i code arg f.at.array
can_apply {i = i} f =
    let one = some_there (f.at.array).items i (let e = f.at.len_is in let b = f.below in omega arith) in
    record { item = one.0; is = one.1; accepted = f.accepted one.0 one.1 }

pub apply_done : {old new : Space} {s : Contents} {x : ArrayAt} {a' : Array} (t : Operations) (by : ℕ) (name : List ℕ) (i code : ℕ) (arg note : List ℕ) → IsContents old s → (f : CanApplyTo t name i code arg s x) → array.Turns old new x.root.0 f.at.array a' → array.IsApplied t i code arg f.at.array a' → note ≡ note_bytes name (WasApply i code arg) → IsArray old.pages.at x.root.0 f.at.array → IsDone t by name (Apply i code arg) (Ok Done) note old new s (with_body x.root.0 (AnArray a') s)
apply_done {old} {new} {s} {x} {a'} t by name i code arg note h f turns p noted_is arr =
    let a = f.at.array in
    let can = can_apply f in
    let item = can.item in
    let now = slice_set a.items i (after_of (record_at t code) item arg) in
    let below = ((arr.built).limits).below_peak in
    let long : length now ≡ length a.items = length-set a.items i (after_of (record_at t code) item arg) in
    array_done t by name (Apply i code arg) Done (record { size = a.size; items = now }) note h f.at turns
    (changed (apply t i code arg (items_of a)) (Ok Done) (record { size = a.size; items = now }) (apply_row t i code arg (items_of a) item f.short can.is f.small can.accepted))
    (p.same).size (p.items item can.is) ((p.same).peak ∙ sym (max_same a.peak (length now) (omega arith))) (λ r. refl) (same_taken turns p.same) noted_is (noted_some name (WasApply i code arg) tt noted_is)

pub refuse_apply : (t : Operations) (name : List ℕ) {s : Contents} {x : ArrayAt} (i code : ℕ) (arg : List ℕ) (reason : Reason) (f : IsArrayAt name s x) → (apply t i code arg (items_of f.array)).0 ≡ Err reason → (on t (Apply i code arg) (plain (get (reading s).things name))).0 ≡ Err reason
refuse_apply t name i code arg reason f is = refuses_array name (apply t i code arg) reason f is

pub above_codes : (t : Operations) (code : ℕ) → 65535 < code → record_named t code ≡ None
above_codes t code great =
    let test : nat_lt code 65536 ≡ false = grind (arith, nat_tests) in
    ap (λ (b : Bool). cond b (record_at t code) None) test

pub unregistered : (t : Operations) (code : ℕ) → code < 65536 → is_some (record_at t code) ≡ false → record_named t code ≡ None
unregistered t code small none = named_at t code small ∙ no_operation (record_at t code) none

pub checked_ok : {X : Type 0} {t : Operations} {name : List ℕ} {verb : Verb} {s : Contents} {Is : X → Type 0} (x : X) → Is x → CheckedBy t name verb s Is (Ok x)
checked_ok {Is = Is} x h = record { ok = λ y e. (let same : x ≡ y = cc in subst Is same h); err = λ reason e. absurd (cc) }

pub checked_err : {X : Type 0} {t : Operations} {name : List ℕ} {verb : Verb} {s : Contents} {Is : X → Type 0} (reason : Reason) → (on t verb (plain (get (reading s).things name))).0 ≡ Err reason → CheckedBy t name verb s Is (Err reason)
checked_err {t = t} {name = name} {verb = verb} {s = s} reason h = record { ok = λ y e. absurd (cc); err = λ other e. (let same : reason ≡ other = cc in subst (λ (r : Reason). (on t verb (plain (get (reading s).things name))).0 ≡ Err r) same h) }

pub can_apply_to : {t : Operations} {name : List ℕ} {i code : ℕ} {arg : List ℕ} {s : Contents} {x : ArrayAt} (at : IsArrayAt name s x) (item : List ℕ) → slice_get (at.array).items i ≡ Some item → i < x.len → length arg ≤ 256 → code < 65536 → IsTrue (accepts_of (record_at t code) item arg) → CanApplyTo t name i code arg s x
can_apply_to {t} {name} {i} {code} {arg} at item is below short small accepts = record {
  at = at;
  below = below;
  short = short;
  small = small;
  accepted = λ other e. subst (λ (y : List ℕ). IsTrue (accepts_of (record_at t code) y arg)) (same_some item other (sym is ∙ e)) accepts;
}
