-- Undo changes nothing that stands around objects, and no peak.
use Rattle.std.proofs.Common.{◌≡◌, ℕ, false, cond, List, Option, Some, None, Ok, Err, refl, sym, ap, ◌∙◌}
use Rattle.std.specs.Str.{bytes_eq}
use Rattle.sg_ops.specs.Table.{Table as Operations}
use Rattle.sg_model.specs.Objects.{Row, Entries}
use Rattle.sg_model.specs.Verb.{Outcome}
use Rattle.sg_model.specs.Objects.Object.{Array, Table, Blob}
use Rattle.sg_model.specs.Step.{on_array, on_table, on_blob}
use Rattle.sg_reading.specs.Reading.{Thing, Reading, plain, Slot, slot}
use Rattle.sg_reading.specs.Reading.Thing.{There}
use Rattle.sg_reading.specs.Back.{Undoing, UndoNote, Before, Plan, planned, change, rebuilt, if_done, carried_out, back, raises, with_thing, without_tomb, put_back, unstep}
use Rattle.sg_reading.specs.Back.Undoing.{WasNothing, WasMake, WasDrop}
use Rattle.sg_reading.specs.Back.Plan.{TakeLast, Append, Replace, Reverse, Forget, Restore, Lay}
use Rattle.sg_reading.specs.Left.{around, IsOfObject}
use Rattle.sg_reading.proofs.Notes.{some_one, after}
use Rattle.sg_reading.proofs.Slotted.{slot_put}

array_around : (f : Row → Outcome × Row) (a : Option Thing) → around (rebuilt a (on_array f (plain a)).1) ≡ around a
array_around f None = refl
array_around f (Some (There (Array row) w)) = refl
array_around f (Some (There (Table m) w)) = refl
array_around f (Some (There (Blob x) w)) = refl

table_around : (f : Entries → Outcome × Entries) (a : Option Thing) → around (rebuilt a (on_table f (plain a)).1) ≡ around a
table_around f None = refl
table_around f (Some (There (Array row) w)) = refl
table_around f (Some (There (Table m) w)) = refl
table_around f (Some (There (Blob x) w)) = refl

blob_around : (f : List ℕ → Outcome × List ℕ) (a : Option Thing) → around (rebuilt a (on_blob f (plain a)).1) ≡ around a
blob_around f None = refl
blob_around f (Some (There (Array row) w)) = refl
blob_around f (Some (There (Table m) w)) = refl
blob_around f (Some (There (Blob x) w)) = refl

plan_around : (t : Operations) (plan : Plan) (a : Option Thing) → around (rebuilt a (change t plan (plain a)).1) ≡ around a
plan_around t TakeLast a = array_around _ a
plan_around t (Append v) a = array_around _ a
plan_around t (Replace i v) a = array_around _ a
plan_around t (Reverse i code arg) a = array_around _ a
plan_around t (Forget k) a = table_around _ a
plan_around t (Restore k v) a = table_around _ a
plan_around t (Lay n ps) a = blob_around _ a

carried_around : (t : Operations) (plan : Option Plan) (a th : Option Thing) → carried_out t plan a ≡ Some th → around th ≡ around a
carried_around t None a th h = absurd (cc)
carried_around t (Some plan) a th h = go (change t plan (plain a)).0 h
  where
    go : (out : Outcome) → if_done out (rebuilt a (change t plan (plain a)).1) ≡ Some th → around th ≡ around a
    go (Ok r) e = ap around (sym (some_one (rebuilt a (change t plan (plain a)).1) th e)) ∙ plan_around t plan a
    go (Err x) e = absurd (cc)

-- root, peak and bands of the object stay
pub note_around : (t : Operations) (u : Undoing) (cs : List Before) (s : Slot) (th : Option Thing) → IsOfObject u → back t u cs s ≡ Some th → around th ≡ around s.thing
note_around t WasNothing cs s th i h = absurd (cc)
note_around t WasMake cs s th i h = absurd i
note_around t (WasDrop r) cs s th i h = absurd i
note_around t u cs s th i h = carried_around t (planned u cs s.thing) s.thing th h

-- and all other names, and the catalogue's peak
pub note_others : (t : Operations) (o : Reading) (n : UndoNote) (cs : List Before) (p : Reading) → unstep t o n cs ≡ Some p → (p.peak ≡ o.peak) × ((m : List ℕ) → bytes_eq n.name m ≡ false → slot p m ≡ slot o m)
note_others t o n cs p h = go (back t n.undoes cs (slot o n.name)) h
  where
    thing_peak : (q : Reading) (m : List ℕ) (th : Option Thing) → (with_thing q m th).peak ≡ q.peak
    thing_peak q m None = refl
    thing_peak q m (Some th) = refl

    tomb_peak : (q : Reading) (m : List ℕ) (d : Option ℕ) → (without_tomb q m d).peak ≡ q.peak
    tomb_peak q m None = refl
    tomb_peak q m (Some r) = refl

    go : (x : Option (Option Thing)) → put_back o n x ≡ Some p → (p.peak ≡ o.peak) × ((m : List ℕ) → bytes_eq n.name m ≡ false → slot p m ≡ slot o m)
    go None e = absurd (cc)
    go (Some th) e =
        let is = some_one (with_thing (without_tomb o n.name (raises n.undoes)) n.name th) p e in (
          sym (ap (λ (q : Reading). q.peak) is) ∙ (thing_peak (without_tomb o n.name (raises n.undoes)) n.name th ∙ tomb_peak o n.name (raises n.undoes)),
          (λ m f. sym (ap (λ q. slot q m) is) ∙ (slot_put o n.name (raises n.undoes) th m ∙ ap (λ b. cond b (after (raises n.undoes) (slot o n.name) th) (slot o m)) f)),
        )
