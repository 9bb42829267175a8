-- Popping, reading and setting items.
use Rattle.std.proofs.Common.{◌≡◌, ℕ, zero, suc, ◌-◌, ◌<◌, ◌≤◌, List, [], length, take, Option, Some, Ok, refl, sym, ap, ◌∙◌, subst, arith, slice_get, slice_set, length-set}
use Rattle.std.proofs.lemmas.List.{length-take-le}
use Rattle.sg_ops.specs.Table.{Table as Operations}
use Rattle.sg_array.specs.Array.{Array, IsArray}
use Rattle.sg_array.specs.Calls as array
use Rattle.sg_model.specs.Objects.{Row as Items}
use Rattle.sg_model.specs.Objects.Object.{Array as AsArray}
use Rattle.sg_model.specs.Step.{on, pop, at_item, got, set_to, Change}
use Rattle.sg_model.specs.Verb.{Outcome}
use Rattle.sg_model.specs.Verb.Verb.{Pop, Set, Get}
use Rattle.sg_model.specs.Verb.Reply.{Done, Bytes}
use Rattle.sg_space.specs.View.{Space}
use Rattle.sg_reading.specs.Reading.{Thing, plain}
use Rattle.sg_reading.specs.Back.Undoing.{WasPop, WasSet}
use Rattle.sg_reading.specs.Noted.{noted, noted_last, noted_popped, noted_item}
use Rattle.sg_contents.specs.Standing.{Contents, IsContents}
use Rattle.sg_contents.specs.Standing.Body.{AnArray}
use Rattle.sg_contents.specs.Changes.{with_body}
use Rattle.sg_contents.specs.Meaning.{reading, thing_of}
use Rattle.sg_objects.specs.Done.{IsDone, done_by}
use Rattle.sg_objects.specs.Found.{CanPopOf, HasItem, CanSetIn}
use Rattle.sg_objects.specs.Notes.{note_bytes}
use Rattle.sg_objects.specs.declared.find.ArrayAt.{ArrayAt}
use Rattle.sg_objects.proofs.Located.{array_under}
use Rattle.sg_objects.proofs.Pushing.{items_of, array_left}
use Rattle.sg_objects.proofs.Items.{max_same, pop_row, get_row, set_row}
use Rattle.sg_objects.specs.Needs.{needed, HasTaken}
use Rattle.sg_objects.proofs.Bodies.{read_done, noted_some, none_taken}
use Rattle.sg_objects.proofs.Doing.{array_done, same_taken}

-- what a change of an array gives, as a change of an object
pub changed : (r : Outcome × Items) (o : Outcome) (row : Items) → r ≡ (o, row) → ◌≡◌ {A = Change} (r.0, Some (AsArray r.1)) (o, Some (AsArray row))
changed r o row e = ap (λ (q : Outcome × Items). (let c : Change = (q.0, Some (AsArray q.1)) in c)) e

-- POP
noted_pop : (a : Array) (root : ℕ) (item : List ℕ) → 0 < length a.items → slice_get a.items (length a.items - 1) ≡ Some item → noted Pop (Some (thing_of root (AnArray a))) ≡ WasPop item
noted_pop a root item some is = by (length a.items) refl some is
  where
    by : (n : ℕ) → length a.items ≡ n → 0 < n → slice_get a.items (n - 1) ≡ Some item → noted_last (length a.items) (items_of a) ≡ WasPop item
    by zero e some is = absurd (omega arith)
    by (suc n) e some is =
        let less : suc n - 1 ≡ n = omega arith in
        let here : slice_get a.items n ≡ Some item = ap (slice_get a.items) (sym less) ∙ is in
        ap (λ (k : ℕ). noted_last k (items_of a)) e ∙ ap noted_popped here

pub can_pop : {s : Contents} {name : List ℕ} {x : ArrayAt} (room : ℕ) → (f : CanPopOf name s x) → x.size ≤ 256 → 8192 ≤ room → array.CanPop room f.at.array
can_pop room f small wide = (
  (let e = f.at.len_is in let some = f.some in omega arith),
  (let e = f.at.size_is in omega arith),
)

pub pop_done : {old new : Space} {s : Contents} {name : List ℕ} {x : ArrayAt} {a' : Array} (t : Operations) (by : ℕ) (into note : List ℕ) → IsContents old s → (f : CanPopOf name s x) → array.Turns old new x.root.0 f.at.array a' → array.IsPopped f.at.array a' → slice_get (f.at.array).items (length (f.at.array).items - 1) ≡ Some (take (f.at.array).size into) → note ≡ note_bytes name (WasPop (take x.size into)) → IsArray old.pages.at x.root.0 f.at.array → IsDone t by name Pop (Ok (Bytes (take x.size into))) note old new s (with_body x.root.0 (AnArray a') s)
pop_done {old} {new} {s} {name} {x} {a'} t by into note h f turns p item noted_is arr =
    let a = f.at.array in
    let some : 0 < length a.items = (let e = f.at.len_is in let some = f.some in omega arith) in
    let last : slice_get a.items (length a.items - 1) ≡ Some (take x.size into) = item ∙ ap (λ (n : ℕ). Some (take n into)) (sym f.at.size_is) in
    let short : length (take (length a.items - 1) a.items) ≡ length a.items - 1 = length-take-le (length a.items - 1) a.items (omega arith) in
    let below = ((arr.built).limits).below_peak in
    array_done t by name Pop (Bytes (take x.size into)) (record { size = a.size; items = take (length a.items - 1) a.items }) note h f.at turns
    (changed (pop (items_of a)) (Ok (Bytes (take x.size into))) (record { size = a.size; items = take (length a.items - 1) a.items }) (pop_row (items_of a) (take x.size into) some last))
    (p.same).size p.items ((p.same).peak ∙ sym (max_same a.peak (length (take (length a.items - 1) a.items)) (omega arith))) (λ r. refl) (same_taken turns p.same)
    (noted_is ∙ ap (note_bytes name) (sym (noted_pop a x.root.0 (take x.size into) some last)))
    (noted_some name (WasPop (take x.size into)) tt noted_is)

-- GET: nothing has changed
pub can_get : {s : Contents} {name : List ℕ} {i : ℕ} {x : ArrayAt} (room : ℕ) → (f : HasItem name i s x) → x.size ≤ 256 → 8192 ≤ room → array.CanGet i room f.at.array
can_get room f small wide = (
  (let e = f.at.len_is in let below = f.below in omega arith),
  (let e = f.at.size_is in omega arith),
)

pub get_done : {old new : Space} {s : Contents} {name : List ℕ} {x : ArrayAt} (t : Operations) (by i : ℕ) (into note : List ℕ) → new ≡ old → IsContents old s → (f : HasItem name i s x) → slice_get (f.at.array).items i ≡ Some (take (f.at.array).size into) → note ≡ [] → IsArray old.pages.at x.root.0 f.at.array → IsDone t by name (Get i) (Ok (Bytes (take x.size into))) note old new s s
get_done {old} {new} {s} {name} {x} t by i into note same h f item none arr =
    let a = f.at.array in
    let under = array_under f.at in
    let here : slice_get a.items i ≡ Some (take x.size into) = item ∙ ap (λ (n : ℕ). Some (take n into)) (sym f.at.size_is) in
    let is = changed (at_item i got (items_of a)) (Ok (Bytes (take x.size into))) (items_of a) (get_row (items_of a) i (take x.size into) here) in
    let below = ((arr.built).limits).below_peak in
    read_done t by name (Get i) (Bytes (take x.size into)) note same h
    (ap (λ (th : Option Thing). (on t (Get i) (plain th)).0) under ∙ ap (λ (c : Change). c.0) is)
    (array_left t (done_by (reading s) by name (Get i) 0 []) name (Get i) x.root.0 (reading s) a a (Bytes (take x.size into)) (items_of a) refl under is refl refl (sym (max_same a.peak (length a.items) (omega arith))) ∙ sym under)
    (λ r. refl)
    (subst (λ (th : Option Thing). HasTaken (needed (Get i) th) old new) (sym under) (none_taken same))
    (none ∙ ap (λ (th : Option Thing). note_bytes name (noted (Get i) th)) (sym under))

-- SET
pub can_read_old : {s : Contents} {name : List ℕ} {i size : ℕ} {x : ArrayAt} → (f : CanSetIn name i size s x) → x.size ≤ 256 → array.CanGet i 256 f.at.array
can_read_old f small = (
  (let e = f.at.len_is in let below = f.below in omega arith),
  (let e = f.at.size_is in omega arith),
)

pub can_set : {s : Contents} {name : List ℕ} {i size : ℕ} {x : ArrayAt} → (f : CanSetIn name i size s x) → array.CanSet i size f.at.array
can_set f = ((let e = f.at.len_is in let below = f.below in omega arith), f.fits ∙ f.at.size_is)

pub set_done : {old new : Space} {s : Contents} {name : List ℕ} {x : ArrayAt} {a' : Array} (t : Operations) (by i : ℕ) (value into note : List ℕ) → IsContents old s → (f : CanSetIn name i (length value) s x) → array.Turns old new x.root.0 f.at.array a' → array.IsSet i value f.at.array a' → slice_get (f.at.array).items i ≡ Some (take (f.at.array).size into) → note ≡ note_bytes name (WasSet i (take x.size into)) → IsArray old.pages.at x.root.0 f.at.array → IsDone t by name (Set i value) (Ok Done) note old new s (with_body x.root.0 (AnArray a') s)
set_done {old} {new} {s} {name} {x} {a'} t by i value into note h f turns p item noted_is arr =
    let a = f.at.array in
    let here : slice_get a.items i ≡ Some (take x.size into) = item ∙ ap (λ (n : ℕ). Some (take n into)) (sym f.at.size_is) in
    let below = ((arr.built).limits).below_peak in
    let long : length (slice_set a.items i value) ≡ length a.items = length-set a.items i value in
    array_done t by name (Set i value) Done (record { size = a.size; items = slice_set a.items i value }) note h f.at turns
    (changed (at_item i (set_to value) (items_of a)) (Ok Done) (record { size = a.size; items = slice_set a.items i value }) (set_row (items_of a) i (take x.size into) value here (f.fits ∙ f.at.size_is)))
    (p.same).size p.items ((p.same).peak ∙ sym (max_same a.peak (length (slice_set a.items i value)) (omega arith))) (λ r. refl) (same_taken turns p.same)
    (noted_is ∙ ap (note_bytes name) (sym (ap (noted_item i) here)))
    (noted_some name (WasSet i (take x.size into)) tt noted_is)
