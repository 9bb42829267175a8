-- What pushing an item comes to.
use Rattle.std.proofs.Common.{◌≡◌, ℕ, ◌<◌, max, Bool, true, cond, not, List, [], ◌∷◌, ◌++◌, length, Option, Some, Ok, Err, sym, ap, ◌∙◌, arith, length-append}
use Rattle.std.specs.Prelude.{nat_lt, ◌==◌, is_ok}
use Rattle.std.specs.FinMap.{get}
use Rattle.std.proofs.lemmas.Bool.Decides.{nat_tests}
use Rattle.sg_ops.specs.Table.{Table as Operations}
use Rattle.sg_array.specs.Array.{Array}
use Rattle.sg_array.specs.Calls.{IsPushed}
use Rattle.sg_model.specs.declared.reason.Reason.TheVariants.{Declined, TooMany}
use Rattle.sg_model.specs.Objects.{Row as Items}
use Rattle.sg_model.specs.Objects.Object.{Array as AsArray}
use Rattle.sg_model.specs.Step.{on, push, Change}
use Rattle.sg_model.specs.Verb.{Verb, Outcome, Reply}
use Rattle.sg_model.specs.Verb.Verb.{Push}
use Rattle.sg_model.specs.Verb.Reply.{Number}
use Rattle.sg_space.specs.View.{View}
use Rattle.sg_reading.specs.Reading.{Thing, Reading, plain, slot}
use Rattle.sg_reading.specs.Reading.Thing.{There}
use Rattle.sg_reading.specs.Did.{slot_after, grown}
use Rattle.sg_reading.specs.Did as model
use Rattle.sg_contents.specs.Standing.Body.{AnArray}
use Rattle.sg_contents.specs.Meaning.{thing_of}
use Rattle.sg_contents.proofs.Among.{eq_self}

pub same_size : (m n : ℕ) → m ≡ n → (m == n) ≡ true
same_size m n e = ap (λ (k : ℕ). m == k) (sym e) ∙ eq_self m

pub push_row : (value : List ℕ) (row : Items) → length value ≡ row.size → length row.items < 1048576 → push value row ≡ (Ok (Number (length row.items)), record row { items = row.items ++ value ∷ [] })
push_row value row fits few =
    let e2 : nat_lt (length row.items) 1048576 ≡ true = grind (arith, nat_tests) in
    ap (λ (b : Bool). cond {A = Outcome × Items} (not b) (Err Declined, row) (cond {A = Outcome × Items} (not (nat_lt (length row.items) 1048576)) (Err TooMany, row) (Ok (Number (length row.items)), record row { items = row.items ++ value ∷ [] }))) (same_size (length value) row.size fits)
    ∙ ap (λ (b : Bool). cond {A = Outcome × Items} (not b) (Err TooMany, row) (Ok (Number (length row.items)), record row { items = row.items ++ value ∷ [] })) e2

abbrev pub items_of : Array → Items
items_of a = record { size = a.size; items = a.items }

pub push_on : (t : Operations) (value : List ℕ) (a : Array) → length value ≡ a.size → length a.items < 1048576 → on t (Push value) (Some (AsArray (items_of a))) ≡ (Ok (Number (length a.items)), Some (AsArray (record { size = a.size; items = a.items ++ value ∷ [] })))
push_on t value a fits few = ap (λ (r : Outcome × Items). (let c : Change = (r.0, Some (AsArray r.1)) in c)) (push_row value (items_of a) fits few)

-- a thing that is an array
pub array_thing : (root size size' peak peak' : ℕ) (items items' : List (List ℕ)) → size ≡ size' → items ≡ items' → peak ≡ peak' → ◌≡◌ {A = Option Thing} (Some (There (AsArray (record { size = size; items = items })) (record { root = root; peak = peak; bands = [] }))) (Some (There (AsArray (record { size = size'; items = items' })) (record { root = root; peak = peak'; bands = [] })))
array_thing root size size' peak peak' items items' s i p = λ k. Some (There (AsArray (record { size = s k; items = i k })) (record { root = root; peak = p k; bands = [] }))

-- what a verb leaves of an array
pub array_left : (t : Operations) (d : model.Did) (name : List ℕ) (verb : Verb) (root : ℕ) (r : Reading) (a a' : Array) (reply : Reply) (row : Items) → d.bands ≡ [] → get r.things name ≡ Some (thing_of root (AnArray a)) → on t verb (Some (AsArray (items_of a))) ≡ (Ok reply, Some (AsArray row)) → a'.size ≡ row.size → a'.items ≡ row.items → a'.peak ≡ max a.peak (length row.items) → (slot_after t d verb (slot r name)).thing ≡ Some (thing_of root (AnArray a'))
array_left t d name verb root r a a' reply row none under is size items peak =
    ap (λ (th : Option Thing). (let c : Change = on t verb (plain th) in grown d verb (is_ok c.0) th c.1)) under
    ∙ (ap (λ (c : Change). grown d verb (is_ok c.0) (Some (thing_of root (AnArray a))) c.1) is
    ∙ (ap (λ (bs : List ℕ). (let o : Option Thing = Some (There (AsArray row) (record { root = root; peak = max a.peak (length row.items); bands = bs })) in o)) none
    ∙ array_thing root row.size a'.size (max a.peak (length row.items)) a'.peak row.items a'.items (sym size) (sym items) (sym peak)))

pub push_left : (t : Operations) (d : model.Did) (name value : List ℕ) (root : ℕ) (w : View) (r : Reading) (a a' : Array) → d.bands ≡ [] → get r.things name ≡ Some (thing_of root (AnArray a)) → length value ≡ a.size → length a.items < 1048576 → IsPushed w root value a a' → (slot_after t d (Push value) (slot r name)).thing ≡ Some (thing_of root (AnArray a'))
push_left t d name value root w r a a' none under fits few p =
    array_left t d name (Push value) root r a a' (Number (length a.items)) (record { size = a.size; items = a.items ++ value ∷ [] }) none under (push_on t value a fits few) p.size p.items
    (p.peak ∙ ap (λ (n : ℕ). max a.peak n) (sym (length-append a.items (value ∷ []))))
