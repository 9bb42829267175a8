-- A verb that leaves the plain objects as they were leaves the reading as it was; and any verb can be done.
use Rattle.std.proofs.Common.{◌≡◌, ℕ, ◌≤◌, Bool, true, false, cond, List, [], ◌++◌, length, Option, Some, None, refl, sym, ap, ◌∙◌, arith, max}
use Rattle.std.specs.Prelude.{is_ok}
use Rattle.std.specs.Str.{bytes_eq}
use Rattle.sg_ops.specs.Table.{Table as Operations}
use Rattle.sg_model.specs.Objects.{Object}
use Rattle.sg_model.specs.Verb.{Verb}
use Rattle.sg_model.specs.Objects.Object.{Array, Table, Blob}
use Rattle.sg_model.specs.Verb.Verb.{Discard}
use Rattle.sg_model.specs.Verb.Op.{On, Names as AllNames}
use Rattle.sg_model.specs.Step.{on}
use Rattle.sg_model.specs.Touches.{Part, Cell, seen}
use Rattle.sg_model.specs.Touches.Part.{Kind, Length, Item, Key, Body, Buried}
use Rattle.sg_model.proofs.Parts.{bytes_same}
use Rattle.sg_model.proofs.Refused.{replied, verb_refused}
use Rattle.sg_recovery.specs.Cells.{After}
use Rattle.sg_reading.specs.Reading.{Thing, Reading, plain, Slot, slot, thing_extra, bared_tomb, extra, shown, at}
use Rattle.sg_reading.specs.Reading.Thing.{There}
use Rattle.sg_reading.specs.Did.{Did, grown, entombed, buried_by, slot_after, result_of, IsAt}
use Rattle.sg_reading.specs.Model.{Ground, model_cells}
use Rattle.sg_reading.specs.Noted.{IsFormed}
use Rattle.sg_reading.proofs.Did.{grown_plain, root_by, peak_by, room_by, grown_root, grown_length, grown_body, form_kept}
use Rattle.sg_reading.proofs.Whole.{nil_end}

max_same : (a b : ℕ) → b ≤ a → max a b ≡ a
max_same a b h = omega (arith, h)

-- what stands around an object that stays, with no band more
pub root_stays : (new : ℕ) (a : Option Thing) → root_by new (seen (plain a) Kind) (thing_extra a Kind) (seen (plain a) Kind) ≡ thing_extra a Kind
root_stays new None = refl
root_stays new (Some (There (Array row) w)) = refl
root_stays new (Some (There (Table m) w)) = refl
root_stays new (Some (There (Blob x) w)) = refl

pub peak_stays : (a : Option Thing) → IsFormed a → peak_by (seen (plain a) Kind) (seen (plain a) Length) (thing_extra a Length) ≡ thing_extra a Length
peak_stays None f = refl
peak_stays (Some (There (Array row) w)) f = max_same w.peak (length row.items) f.0
peak_stays (Some (There (Table m) w)) f = refl
peak_stays (Some (There (Blob x) w)) f = refl

pub room_stays : (more : List ℕ) (a : Option Thing) → IsFormed a → more ≡ [] → room_by more (seen (plain a) Kind) (seen (plain a) Body) (thing_extra a Body) ≡ thing_extra a Body
room_stays more None f e = refl
room_stays more (Some (There (Array row) w)) f e = refl
room_stays more (Some (There (Table m) w)) f e = refl
room_stays more (Some (There (Blob x) w)) f e = λ i. record { peak = max_same w.peak (length x) f i; bands = (ap (λ bs. w.bands ++ bs) e ∙ sym (nil_end w.bands)) i }

-- no drop

gone_none : (a : Option Thing) → ◌≡◌ {A = Option Object} None (plain a) → a ≡ None
gone_none None h = refl
gone_none (Some th) h = absurd (cc)

discarded : (t : Operations) (o : Option Object) → (on t Discard o).1 ≡ None
discarded t None = refl
discarded t (Some o) = refl

buried_stays : (t : Operations) (d : Did) (verb : Verb) (s : Slot) (r : ℕ) → (on t verb (plain s.thing)).1 ≡ plain s.thing → buried_by d verb s r ≡ s.buried r
buried_stays t d Discard s r h = ap (λ a. entombed d a r (s.buried r)) (gone_none s.thing (sym (discarded t (plain s.thing)) ∙ h))
buried_stays t d verb s r h = refl

-- refused, or only reading, or changing nothing
pub slot_stays : (t : Operations) (d : Did) (verb : Verb) (s : Slot) → IsFormed s.thing → d.bands ≡ [] → (on t verb (plain s.thing)).1 ≡ plain s.thing → (q : Part) → shown (slot_after t d verb s) q ≡ shown s q
slot_stays t d verb s f e h q = λ i. record { sort = seen (plainly i) Kind; value = seen (plainly i) q; extra = extras q i }
  where
    new : Option Thing
    new = grown d verb (is_ok (on t verb (plain s.thing)).0) s.thing (on t verb (plain s.thing)).1

    plainly : plain (grown d verb (is_ok (on t verb (plain s.thing)).0) s.thing (on t verb (plain s.thing)).1) ≡ plain s.thing
    plainly = grown_plain d verb (is_ok (on t verb (plain s.thing)).0) s.thing (on t verb (plain s.thing)).1 ∙ h

    extras : (q : Part) → extra (slot_after t d verb s) q ≡ extra s q
    extras Kind = grown_root d verb (is_ok (on t verb (plain s.thing)).0) s.thing (on t verb (plain s.thing)).1
        ∙ (ap (λ o. root_by d.root (seen (plain s.thing) Kind) (thing_extra s.thing Kind) (seen o Kind)) h ∙ root_stays d.root s.thing)
    extras Length = grown_length d verb (is_ok (on t verb (plain s.thing)).0) s.thing (on t verb (plain s.thing)).1 (form_kept t verb (plain s.thing))
        ∙ (ap (λ o. peak_by (seen o Kind) (seen o Length) (thing_extra s.thing Length)) h ∙ peak_stays s.thing f)
    extras (Item i) = refl
    extras (Key k) = refl
    extras Body = grown_body d verb (is_ok (on t verb (plain s.thing)).0) s.thing (on t verb (plain s.thing)).1 (form_kept t verb (plain s.thing))
        ∙ (ap (λ o. room_by d.bands (seen o Kind) (seen o Body) (thing_extra s.thing Body)) h ∙ room_stays d.bands s.thing f e)
    extras (Buried r) = ap bared_tomb (buried_stays t d verb s r h)

-- WHAT IS OWED BY A LINE WITHOUT A RECORD
pub looks_on : (t : Operations) (g : Ground) (d : Did) (n : List ℕ) (verb : Verb) (o : Reading) → d.op ≡ On n verb → IsAt d o → IsFormed (slot o n).thing → d.bands ≡ []
    → (on t verb (plain (slot o n).thing)).1 ≡ plain (slot o n).thing → After (model_cells t g) d o o
looks_on t g d n verb o op is f e h = (is, (λ c w. sym (ap (λ p. result_of t d p o c) op ∙ by_test c (bytes_eq n c.name) refl)), (λ c w. refl))
  where
    by_test : (c : Cell) (b : Bool) → bytes_eq n c.name ≡ b → shown (cond (bytes_eq n c.name) (slot_after t d verb (slot o n)) (slot o c.name)) c.part ≡ at o c
    by_test c true x = ap (λ b. shown (cond b (slot_after t d verb (slot o n)) (slot o c.name)) c.part) x ∙ (slot_stays t d verb (slot o n) f e h c.part ∙ ap (λ m. shown (slot o m) c.part) (bytes_same n c.name x))
    by_test c false x = ap (λ b. shown (cond b (slot_after t d verb (slot o n)) (slot o c.name)) c.part) x

pub looks_list : (t : Operations) (g : Ground) (d : Did) (o : Reading) → d.op ≡ AllNames → IsAt d o → After (model_cells t g) d o o
looks_list t g d o op is = (is, (λ c w. sym (ap (λ p. result_of t d p o c) op)), (λ c w. refl))

-- so a refused verb, and one that only reads
pub looks_refused : (t : Operations) (g : Ground) (d : Did) (n : List ℕ) (verb : Verb) (o : Reading) → d.op ≡ On n verb → IsAt d o → IsFormed (slot o n).thing → d.bands ≡ []
    → replied (on t verb (plain (slot o n).thing)).0 ≡ false → After (model_cells t g) d o o
looks_refused t g d n verb o op is f e h = looks_on t g d n verb o op is f e (verb_refused t verb (plain (slot o n).thing) h)
