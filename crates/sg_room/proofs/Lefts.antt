-- What is left by a verb, in the form of the readings' laws, is one slot.
use Rattle.std.proofs.Common.{◌≡◌, ◌≢◌, ℕ, Bool, true, false, cond, List, Option, Some, None, refl, sym, ap, ◌∙◌}
use Rattle.std.specs.Prelude.{◌+◌, max}
use Rattle.std.specs.Str.{bytes_eq}
use Rattle.std.specs.FinMap.{get, len}
use Rattle.sg_ops.specs.Table.{Table as Operations}
use Rattle.sg_model.specs.Verb.{Verb}
use Rattle.sg_model.proofs.Parts.{bytes_same, bytes_self}
use Rattle.sg_reading.specs.Reading.{Thing, Tomb, Reading, slot, objects}
use Rattle.sg_reading.specs.Did.{slot_after}
use Rattle.sg_reading.specs.Back.{Undoing, Before, back, raises}
use Rattle.sg_reading.specs.Left.{Leaves, done_by, IsLeft, left_buried}
use Rattle.sg_reading.proofs.Slotted.{get_objects}
use Rattle.sg_reading.proofs.Notes.{is_raised}
use Rattle.sg_room.specs.Marks.{marks_of, NamesRoots, marks_after, kind_of, undone}
use Rattle.sg_room.proofs.Slots.{SlotsAre, verb_marks}
use Rattle.sg_room.proofs.Undone.{note_marks}

true_false : (b : Bool) → b ≡ true → b ≡ false → ⊥
true_false b e f = cc

far : (name other : List ℕ) → bytes_eq name other ≡ false → other ≢ name
far name other e f = true_false (bytes_eq name other) (ap (bytes_eq name) f ∙ bytes_self name) e

pub slots_are : (name : List ℕ) (th : Option Thing) (buried : ℕ → Option Tomb) (old now : Reading) → Leaves name th buried old now → SlotsAre name (record { thing = th; buried = buried }) old now
slots_are name th buried old now l n = go (bytes_eq name n) refl
  where
    go : (b : Bool) → bytes_eq name n ≡ b → slot now n ≡ cond b (record { thing = th; buried = buried }) (slot old n)
    go true e = ap (slot now) (sym (bytes_same name n e)) ∙ (λ i. record { thing = l.thing i; buried = λ r. l.tomb r i })
    go false e = λ i. record { thing = l.things n (far name n e) i; buried = λ r. l.tombs r n (far name n e) i }

-- a verb, with the most rows of the catalogue counted
pub left_marks : (t : Operations) (by : ℕ) (name : List ℕ) (verb : Verb) (old now : Reading) (l : IsLeft t by name verb old now) → NamesRoots old → NamesRoots now → now.peak ≡ max old.peak (len now.things + len now.tombs)
    → marks_of now ≡ marks_after t by l.root name verb (get (objects old) name) (marks_of old)
left_marks t by name verb old now l before behind rows =
    verb_marks t (done_by old by name verb l.root l.bands) verb name old now
    (slots_are name (slot_after t (done_by old by name verb l.root l.bands) verb (slot old name)).thing (slot_after t (done_by old by name verb l.root l.bands) verb (slot old name)).buried old now l.leaves)
    before behind rows
    ∙ ap (λ o. marks_after t by l.root name verb o (marks_of old)) (sym (get_objects old name))

same_gone : (r : Option ℕ) (buried : ℕ → Option Tomb) (p : ℕ) → left_buried r buried p ≡ cond (is_raised r p) None (buried p)
same_gone None buried p = refl
same_gone (Some q) buried p = refl

-- and the undoing of a note
pub undone_marks : (t : Operations) (cs : List Before) (name : List ℕ) (u : Undoing) (th : Option Thing) (old now : Reading) → back t u cs (slot old name) ≡ Some th → Leaves name th (left_buried (raises u) (slot old name).buried) old now
    → NamesRoots old → NamesRoots now → now.peak ≡ old.peak → marks_of now ≡ undone (kind_of u) name (marks_of old)
undone_marks t cs name u th old now h l before behind rows =
    note_marks t cs name old now before behind rows u th h
    (λ n. slots_are name th (left_buried (raises u) (slot old name).buried) old now l n
    ∙ ap (λ (b : ℕ → Option Tomb). cond (bytes_eq name n) (record { thing = th; buried = b }) (slot old n)) (λ i p. same_gone (raises u) (slot old name).buried p i))
