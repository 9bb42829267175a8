-- What the notes of verbs on arrays come to.
use Rattle.std.proofs.Common.{◌≡◌, ℕ, ◌+◌, ◌-◌, ◌<◌, Bool, true, false, cond, List, [], ◌∷◌, ◌++◌, length, take, Option, Some, None, Ok, Err, refl, sym, ap, ◌∙◌, subst, arith, inl, inr, slice_set}
use Rattle.std.specs.Prelude.{nat_lt}
use Rattle.std.specs.FinMap.{get}
use Rattle.std.proofs.lemmas.Bool.{cases_lt, cases_eq}
use Rattle.std.proofs.lemmas.Bool.Decides.{nat_tests}
use Rattle.sg_ops.specs.Table.{Table as Operations}
use Rattle.sg_array.specs.Array.{Array, IsArray, page_count, pages_for}
use Rattle.sg_array.proofs.Bounds.{array_exact}
use Rattle.sg_array.specs.Calls as array
use Rattle.sg_catalog.specs.declared.row.ObjectKind.TheVariants as kinds
use Rattle.sg_model.specs.declared.reason.Reason.{Reason}
use Rattle.sg_model.specs.Objects.{Row as Items}
use Rattle.sg_model.specs.Objects.Object.{Array as AsArray}
use Rattle.sg_model.specs.Step.{on_array, push, pop, at_item, set_to}
use Rattle.sg_model.specs.Verb.{Outcome, Reply}
use Rattle.sg_space.specs.View.{View, Space}
use Rattle.sg_base.specs.Sheet.{Sheet}
use Rattle.sg_model.specs.Touches.{seen}
use Rattle.sg_model.specs.Touches.Part.{Length}
use Rattle.sg_reading.specs.Reading.{Thing, plain, slot, thing_extra}
use Rattle.sg_reading.specs.Reading.Thing.{There}
use Rattle.sg_reading.specs.Back.{Undoing, rebuilt, if_done, back, carried_out, raises}
use Rattle.sg_reading.specs.Back.Plan.{Append}
use Rattle.sg_reading.specs.Back.Undoing.{WasPush, WasPop, WasSet}
use Rattle.sg_contents.specs.Standing.{Body, Contents, IsContents}
use Rattle.sg_contents.specs.Standing.Body.{AnArray}
use Rattle.sg_contents.specs.Changes.{with_body, BodyTurns}
use Rattle.sg_contents.specs.Meaning.{reading, thing_of}
use Rattle.sg_objects.specs.Done.{IsFresh}
use Rattle.sg_objects.specs.Found.{IsAt, IsMissing}
use Rattle.sg_objects.specs.Needs.{needed_back, pages_alone, HasTaken}
use Rattle.sg_objects.specs.Undone.{IsUndone}
use Rattle.sg_objects.proofs.Bodies.{body_undone, pages_taken}
use Rattle.sg_objects.proofs.Doing.{same_taken}
use Rattle.sg_objects.proofs.Located.{thing_under, array_turns}
use Rattle.sg_objects.proofs.Checks.{push_unfit}
use Rattle.sg_objects.proofs.Items.{max_same, pop_none, at_none, unfit_row, some_there, set_row, pop_row}
use Rattle.sg_objects.proofs.Pushing.{items_of, array_thing, push_row}
use Rattle.sg_objects.proofs.Fresh.{fresh_roomy}
use Rattle.sg_objects.proofs.Refused.{missing_array}

-- a change of an array, carried out
abbrev pub carried : (Items → Outcome × Items) → Option Thing → Option (Option Thing)
carried change th = let r = on_array change (plain th) in if_done r.0 (rebuilt th r.1)

pub refused_none : (o : Outcome) (reason : Reason) (x : Option Thing) (th : Option Thing) → o ≡ Err reason → if_done o x ≡ Some th → ⊥
refused_none (Ok reply) reason x th e f = absurd (cc)
refused_none (Err other) reason x th e f = absurd (cc)

-- where no such array stands, it can't be
pub not_missing : {space : Space} {s : Contents} (name : List ℕ) (change : Items → Outcome × Items) (reason : Reason) (th : Option Thing) → IsContents space s → IsMissing kinds.Array s name reason → carried change (get (reading s).things name) ≡ Some th → ⊥
not_missing {space} {s} name change reason th h m e = refused_none _ reason _ th (missing_array s name change reason h m) e

-- a change that was carried out got a reply, and left this
pub record WasCarried (change : Items → Outcome × Items) (root : ℕ) (a : Array) (th : Option Thing) : Type 0 where
  pub reply : Reply
  pub replied : (change (items_of a)).0 ≡ Ok reply
  pub th_is : th ≡ Some (There (AsArray (change (items_of a)).1) (record { root = root; peak = a.peak; bands = [] }))

pub was_done : (o : Outcome) (x th : Option Thing) → if_done o x ≡ Some th → (reply : Reply) × (o ≡ Ok reply) × (th ≡ x)
was_done (Ok reply) x th e = (reply, refl, cc)
was_done (Err reason) x th e = absurd (cc)

pub was_carried : (s : Contents) (name : List ℕ) {root : ℕ} (change : Items → Outcome × Items) (th : Option Thing) (a : Array) → get (reading s).things name ≡ Some (thing_of root (AnArray a)) → carried change (get (reading s).things name) ≡ Some th → WasCarried change root a th
was_carried s name {root} change th a under e =
    let here : carried change (Some (thing_of root (AnArray a))) ≡ Some th = ap (carried change) (sym under) ∙ e in
    let one = was_done (change (items_of a)).0 (Some (There (AsArray (change (items_of a)).1) (record { root = root; peak = a.peak; bands = [] }))) th here in
    record { reply = one.0; replied = one.1; th_is = one.2 }

pub carried_at : {s : Contents} {name : List ℕ} {root : ℕ} {a : Array} (change : Items → Outcome × Items) (th : Option Thing) → IsAt kinds.Array s name root → s.body root ≡ AnArray a → carried change (get (reading s).things name) ≡ Some th → WasCarried change root a th
carried_at {s} {name} {root} {a} change th f is e = was_carried s name change th a (thing_under f ∙ ap (λ (b : Body). Some (thing_of root b)) is) e

pub not_both : (o : Outcome) (reply : Reply) (reason : Reason) → o ≡ Ok reply → o ≡ Err reason → ⊥
not_both o reply reason e f = let g = sym e ∙ f in cc

-- what is undone in an array
pub array_undone : {old new : Space} {s : Contents} {root : ℕ} {a a' : Array} (u : Undoing) → raises u ≡ None → (name : List ℕ) (th : Option Thing) (row : Items) → IsContents old s → (f : IsAt kinds.Array s name root) → s.body root ≡ AnArray a → array.Turns old new root a a' → th ≡ Some (There (AsArray row) (record { root = root; peak = a.peak; bands = [] })) → a'.size ≡ row.size → a'.items ≡ row.items → a'.peak ≡ a.peak → HasTaken (needed_back u) old new → IsUndone u name old new s th (with_body root (AnArray a') s)
array_undone {old} {new} {s} {root} {a} {a'} u plain_note name th row h f is turns th_is size items peak taken =
    body_undone u plain_note name th (AnArray a') h f (subst (λ (b : Body). BodyTurns old new kinds.Array root b (AnArray a')) (sym is) (array_turns turns))
    (th_is ∙ array_thing root row.size a'.size a.peak a'.peak row.items a'.items (sym size) (sym items) (sym peak)) taken

-- UNDO OF A PUSH
pub pop_left : {root : ℕ} {a : Array} {th : Option Thing} → WasCarried pop root a th → 0 < length a.items
pop_left {root} {a} {th} w = elim (cases_eq (length a.items) 0) [
  | inl e ↦ absurd (not_both (pop (items_of a)).0 w.reply _ w.replied (ap (λ (r : Outcome × Items). r.0) (pop_none (items_of a) e)))
  | inr ne ↦ omega (arith, ne)
]

pub popped_items : (a : Array) → 0 < length a.items → (pop (items_of a)).1 ≡ record { size = a.size; items = take (length a.items - 1) a.items }
popped_items a some = let last = some_there a.items (length a.items - 1) (omega arith) in ap (λ (r : Outcome × Items). r.1) (pop_row (items_of a) last.0 some last.1)

pub undo_push_done : {old new : Space} {s : Contents} {root : ℕ} {a a' : Array} (name : List ℕ) (th : Option Thing) → IsContents old s → (f : IsAt kinds.Array s name root) → s.body root ≡ AnArray a → carried pop (get (reading s).things name) ≡ Some th → array.Turns old new root a a' → array.IsPopped a a' → IsUndone WasPush name old new s th (with_body root (AnArray a') s)
undo_push_done {old} {new} {s} {root} {a} {a'} name th h f is e turns p =
    let w = carried_at pop th f is e in
    array_undone WasPush refl name th (record { size = a.size; items = take (length a.items - 1) a.items }) h f is turns
    (w.th_is ∙ ap (λ (r : Items). Some (There (AsArray r) (record { root = root; peak = a.peak; bands = [] }))) (popped_items a (pop_left w)))
    (p.same).size p.items (p.same).peak (same_taken turns p.same)

pub can_unpush : {pages : ℕ → Option Sheet} {root : ℕ} {a : Array} {th : Option Thing} → IsArray pages root a → WasCarried pop root a th → array.CanPop 256 a
can_unpush arr w = (pop_left w, ((arr.built).limits).small)

-- UNDO OF A POP
abbrev pub is_lower : Option Thing → Bool
is_lower th = nat_lt (seen (plain th) Length) (thing_extra th Length)

pop_plan : (t : Operations) (item : List ℕ) (b : Bool) (x th : Option Thing) → carried_out t (cond b (Some (Append item)) None) x ≡ Some th → (b ≡ true) × (carried (push item) x ≡ Some th)
pop_plan t item true x th e = (refl, e)
pop_plan t item false x th e = absurd (cc)

-- it was a push, onto an array that was longer once
pub pop_planned : (s : Contents) (name : List ℕ) (t : Operations) (item : List ℕ) (th : Option Thing) → back t (WasPop item) [] (slot (reading s) name) ≡ Some th → carried (push item) (get (reading s).things name) ≡ Some th
pop_planned s name t item th e = (pop_plan t item (is_lower (get (reading s).things name)) (get (reading s).things name) th e).1

pub lower : {s : Contents} {name : List ℕ} {root : ℕ} {a : Array} (t : Operations) (item : List ℕ) (th : Option Thing) → IsAt kinds.Array s name root → s.body root ≡ AnArray a → back t (WasPop item) [] (slot (reading s) name) ≡ Some th → length a.items < a.peak
lower {s} {name} {root} {a} t item th f is e =
    let under = thing_under f ∙ ap (λ (b : Body). Some (thing_of root b)) is in
    let b : nat_lt (length a.items) a.peak ≡ true = ap is_lower (sym under) ∙ (pop_plan t item (is_lower (get (reading s).things name)) (get (reading s).things name) th e).0 in
    grind (arith, nat_tests, b)

pub push_fits : {root : ℕ} {a : Array} {th : Option Thing} (item : List ℕ) → WasCarried (push item) root a th → length item ≡ a.size
push_fits {root} {a} {th} item w = elim (cases_eq (length item) a.size) [
  | inl e ↦ e
  | inr ne ↦ absurd (not_both (push item (items_of a)).0 w.reply _ w.replied (push_unfit item (items_of a) ne))
]

pub can_repush : {v : View} {s : Contents} {name : List ℕ} {root : ℕ} {a : Array} {th : Option Thing} (item : List ℕ) → IsContents v.space s → IsAt kinds.Array s name root → s.body root ≡ AnArray a → IsArray v.space.pages.at root a → IsFresh v → WasCarried (push item) root a th → length a.items < a.peak → array.CanPush v root (length item) a
can_repush item h f is arr fresh w low =
    let most = ((arr.built).limits).few in
    record {
      fits = push_fits item w;
      few = (omega arith);
      roomy = fresh_roomy fresh h f is arr;
      free = λ full. absurd (omega arith);
      may_take = λ full. absurd (omega arith);
    }

-- an array that was longer once takes no page
repushed_taken : {old new : Space} {w : View} {root : ℕ} {item : List ℕ} {a a' : Array} → IsArray old.pages.at root a → array.Turns old new root a a' → array.IsPushed w root item a a' → length a.items < a.peak → HasTaken (pages_alone 0) old new
repushed_taken {a = a} {a' = a'} arr turns p low =
    let had = array_exact a arr in
    let peak : a'.peak ≡ a.peak = p.peak ∙ max_same a.peak (length a.items + 1) (omega arith) in
    let has : page_count a' ≡ pages_for a.size a.peak = array_exact a' turns.array ∙ (λ i. pages_for (p.size i) (peak i)) in
    pages_taken (pages_alone 0) (page_count a) (page_count a') (turns.pages).exactly turns.bands (omega arith)

pub undo_pop_done : {old new : Space} {w : View} {s : Contents} {root : ℕ} {a a' : Array} (t : Operations) (name item : List ℕ) (th : Option Thing) → IsContents old s → (f : IsAt kinds.Array s name root) → s.body root ≡ AnArray a → IsArray old.pages.at root a → back t (WasPop item) [] (slot (reading s) name) ≡ Some th → array.Turns old new root a a' → array.IsPushed w root item a a' → IsUndone (WasPop item) name old new s th (with_body root (AnArray a') s)
undo_pop_done {old} {new} {w} {s} {root} {a} {a'} t name item th h f is arr e turns p =
    let c = carried_at (push item) th f is (pop_planned s name t item th e) in
    let low = lower t item th f is e in
    let most = ((arr.built).limits).few in
    array_undone (WasPop item) refl name th (record { size = a.size; items = a.items ++ item ∷ [] }) h f is turns
    (c.th_is ∙ ap (λ (r : Outcome × Items). Some (There (AsArray r.1) (record { root = root; peak = a.peak; bands = [] }))) (push_row item (items_of a) (push_fits item c) (omega arith)))
    p.size p.items (p.peak ∙ max_same a.peak (length a.items + 1) (omega arith)) (repushed_taken arr turns p low)

-- UNDO OF A SET
pub set_below : {root : ℕ} {a : Array} {th : Option Thing} (i : ℕ) (item : List ℕ) → WasCarried (at_item i (set_to item)) root a th → array.CanSet i (length item) a
set_below {root} {a} {th} i item w = elim (cases_lt i (length a.items)) [
  | inl low ↦ (
    low,
    elim (cases_eq (length item) a.size) [
      | inl e ↦ e
      | inr ne ↦ (let one = some_there a.items i low in absurd (not_both (at_item i (set_to item) (items_of a)).0 w.reply _ w.replied (ap (λ (r : Outcome × Items). r.0) (unfit_row (items_of a) i one.0 item one.1 ne))))
    ],
  )
  | inr past ↦ absurd (not_both (at_item i (set_to item) (items_of a)).0 w.reply _ w.replied (ap (λ (r : Outcome × Items). r.0) (at_none (items_of a) i (set_to item) past)))
]

pub undo_set_done : {old new : Space} {s : Contents} {root : ℕ} {a a' : Array} (name item : List ℕ) (i : ℕ) (th : Option Thing) → IsContents old s → (f : IsAt kinds.Array s name root) → s.body root ≡ AnArray a → carried (at_item i (set_to item)) (get (reading s).things name) ≡ Some th → array.Turns old new root a a' → array.IsSet i item a a' → IsUndone (WasSet i item) name old new s th (with_body root (AnArray a') s)
undo_set_done {old} {new} {s} {root} {a} {a'} name item i th h f is e turns p =
    let c = carried_at (at_item i (set_to item)) th f is e in
    let can = set_below i item c in
    let one = some_there a.items i can.0 in
    array_undone (WasSet i item) refl name th (record { size = a.size; items = slice_set a.items i item }) h f is turns
    (c.th_is ∙ ap (λ (r : Outcome × Items). Some (There (AsArray r.1) (record { root = root; peak = a.peak; bands = [] }))) (set_row (items_of a) i one.0 item one.1 can.1))
    (p.same).size p.items (p.same).peak (same_taken turns p.same)
