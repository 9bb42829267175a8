-- WHAT A VERB LEFT is what the laws of cells ask of it; and what the undoing of a note left.
use Rattle.std.proofs.Common.{◌≡◌, ◌≢◌, ℕ, ◌&&◌, Bool, true, false, cond, List, ◌∷◌, Option, Some, None, refl, sym, ap, ◌∙◌}
use Rattle.std.specs.Str.{bytes_eq}
use Rattle.std.specs.FinMap.{get}
use Rattle.sg_serial.specs.Machine.{any_touch}
use Rattle.sg_serial.specs.Locks.{writes}
use Rattle.sg_ops.specs.Table.{Table as Operations}
use Rattle.sg_model.specs.Touches.{Part, Cell, covers, reach_of}
use Rattle.sg_model.specs.Touches.Part.{Kind, Length, Item, Key, Body, Buried}
use Rattle.sg_model.specs.Verb.{Verb}
use Rattle.sg_model.proofs.Parts.{writes_part, bytes_same, bytes_self}
use Rattle.sg_model.proofs.Footprint.{any_write}
use Rattle.sg_recovery.specs.Cells.{After, setting_of}
use Rattle.sg_recovery.specs.Keeps.{HasUndone}
use Rattle.sg_recovery.specs.Log.{Top}
use Rattle.sg_reading.specs.Reading.{Thing, Tomb, Reading, plain, Slot, slot, shown, at}
use Rattle.sg_reading.specs.Did.{Did, slot_after, result}
use Rattle.sg_reading.specs.Back.{Undoing, UndoNote, back, raises, with_thing, without_tomb, put_back}
use Rattle.sg_reading.specs.Model.{Ground, model_cells}
use Rattle.sg_reading.specs.Left.{Leaves, done_by, IsLeft, left_buried}
use Rattle.sg_reading.proofs.Notes.{some_one, is_raised}
use Rattle.sg_reading.proofs.Slotted.{get_thing, thing_tombs, tomb_things, get_tomb}
use Rattle.sg_reading.specs.Noted.{IsFormed}
use Rattle.sg_reading.proofs.Done.{slot_frame}
use Rattle.sg_reading.proofs.Laws.{touches_at}
use Rattle.sg_reading.proofs.Whole.{le_of}

-- slots with the same thing and the same tombstones show the same
pub shown_same : (s p : Slot) → s.thing ≡ p.thing → ((r : ℕ) → s.buried r ≡ p.buried r) → (q : Part) → shown s q ≡ shown p q
shown_same s p th buried Kind = λ i. shown (record { thing = th i; buried = s.buried }) Kind
shown_same s p th buried Length = λ i. shown (record { thing = th i; buried = s.buried }) Length
shown_same s p th buried (Item n) = λ i. shown (record { thing = th i; buried = s.buried }) (Item n)
shown_same s p th buried (Key k) = λ i. shown (record { thing = th i; buried = s.buried }) (Key k)
shown_same s p th buried Body = λ i. shown (record { thing = th i; buried = s.buried }) Body
shown_same s p th buried (Buried r) = λ i. shown (record { thing = th i; buried = λ q. buried q i }) (Buried r)

not_both : (b : Bool) → b ≡ true → b ≡ false → ⊥
not_both b e f = cc

far : (name other : List ℕ) → bytes_eq name other ≡ false → other ≢ name
far name other e f = not_both (bytes_eq name other) (ap (bytes_eq name) f ∙ bytes_self name) e

-- what is left under a name, and under the others, shows in the cells
pub leaves_show : (name : List ℕ) (th : Option Thing) (buried : ℕ → Option Tomb) (old now : Reading) → Leaves name th buried old now → (c : Cell) → at now c ≡ shown (cond (bytes_eq name c.name) (record { thing = th; buried = buried }) (slot old c.name)) c.part
leaves_show name th buried old now l c = go (bytes_eq name c.name) refl
  where
    go : (b : Bool) → bytes_eq name c.name ≡ b → at now c ≡ shown (cond (bytes_eq name c.name) (record { thing = th; buried = buried }) (slot old c.name)) c.part
    go true e =
        ap (λ (n : List ℕ). shown (slot now n) c.part) (sym (bytes_same name c.name e))
        ∙ (shown_same (slot now name) (record { thing = th; buried = buried }) l.thing l.tomb c.part
        ∙ ap (λ (b : Bool). shown (cond b (record { thing = th; buried = buried }) (slot old c.name)) c.part) (sym e))
    go false e =
        shown_same (slot now c.name) (slot old c.name) (l.things c.name (far name c.name e)) (λ r. l.tombs r c.name (far name c.name e)) c.part
        ∙ ap (λ (b : Bool). shown (cond b (record { thing = th; buried = buried }) (slot old c.name)) c.part) (sym e)

-- A VERB
module _ (t : Operations) (g : Ground) (by : ℕ) (name : List ℕ) (verb : Verb) (old now : Reading) (l : IsLeft t by name verb old now) (formed : IsFormed (slot old name).thing) where
  abbrev pub did : Did
  did = done_by old by name verb l.root l.bands

  is_result : (c : Cell) → at now c ≡ result t did old c
  is_result c = leaves_show name (slot_after t did verb (slot old name)).thing (slot_after t did verb (slot old name)).buried old now l.leaves c

  writes_are : (c : Cell) → any_touch (writes covers) did.touches c ≡ (bytes_eq name c.name && any_touch writes_part (reach_of verb (plain (slot old name).thing)) c.part)
  writes_are c = ap (λ ts. any_touch (writes covers) ts c) (touches_at t old name verb) ∙ any_write name (reach_of verb (plain (slot old name).thing)) c

  rest : (c : Cell) (b : Bool) → bytes_eq name c.name ≡ b → (bytes_eq name c.name && any_touch writes_part (reach_of verb (plain (slot old name).thing)) c.part) ≡ false
      → shown (cond (bytes_eq name c.name) (slot_after t did verb (slot old name)) (slot old c.name)) c.part ≡ at old c
  rest c true x z = ap (λ b. shown (cond b (slot_after t did verb (slot old name)) (slot old c.name)) c.part) x
      ∙ (slot_frame t did verb (slot old name) formed l.none c.part (sym (ap (λ b. b && any_touch writes_part (reach_of verb (plain (slot old name).thing)) c.part) x) ∙ z) ∙ ap (λ m. shown (slot old m) c.part) (bytes_same name c.name x))
  rest c false x z = ap (λ b. shown (cond b (slot_after t did verb (slot old name)) (slot old c.name)) c.part) x

  -- WHAT IT LEFT IS ONE OF THE READINGS THAT THE LOG'S LAWS ALLOW AFTER IT
  pub leaves_after : After (model_cells t g) (done_by old by name verb l.root l.bands) old now
  leaves_after = (refl, (λ c w. is_result c), (λ c z. is_result c ∙ rest c (bytes_eq name c.name) refl (sym (writes_are c) ∙ z)))

-- THE UNDOING OF A NOTE
left_is : (d : Option ℕ) (buried : ℕ → Option Tomb) (r : ℕ) → cond (is_raised d r) None (buried r) ≡ left_buried d buried r
left_is None buried r = refl
left_is (Some root) buried r = refl

tombs_left : (o : Reading) (n : List ℕ) (d : Option ℕ) (m : List ℕ) (r : ℕ) → get (without_tomb o n d).tombs (r ∷ m) ≡ cond (bytes_eq n m) (left_buried d (slot o m).buried r) (get o.tombs (r ∷ m))
tombs_left o n d m r = get_tomb o n d m r ∙ ap (λ x. cond (bytes_eq n m) x (get o.tombs (r ∷ m))) (left_is d (slot o m).buried r)

-- what stands under a name instead, and the tombstone that is raised is gone
module _ (name : List ℕ) (u : Undoing) (th : Option Thing) (old : Reading) where
  abbrev undone : Reading
  undone = with_thing (without_tomb old name (raises u)) name th

  undone_leaves : Leaves name th (left_buried (raises u) (slot old name).buried) old undone
  undone_leaves = record {
    thing = get_thing (without_tomb old name (raises u)) name th name ∙ ap (λ b. cond b th (get (without_tomb old name (raises u)).things name)) (bytes_self name);
    things = λ other ne. get_thing (without_tomb old name (raises u)) name th other ∙ (ap (λ b. cond b th (get (without_tomb old name (raises u)).things other)) (apart other ne) ∙ ap (λ m. get m other) (tomb_things old name (raises u)));
    tomb = λ root. ap (λ m. get m (root ∷ name)) (thing_tombs (without_tomb old name (raises u)) name th) ∙ (tombs_left old name (raises u) name root ∙ ap (λ b. cond b (left_buried (raises u) (slot old name).buried root) (get old.tombs (root ∷ name))) (bytes_self name));
    tombs = λ root other ne. ap (λ m. get m (root ∷ other)) (thing_tombs (without_tomb old name (raises u)) name th) ∙ (tombs_left old name (raises u) other root ∙ ap (λ b. cond b (left_buried (raises u) (slot old other).buried root) (get old.tombs (root ∷ other))) (apart other ne));
  }
    where
      go : (other : List ℕ) → other ≢ name → (b : Bool) → bytes_eq name other ≡ b → b ≡ false
      go other ne true e = absurd (ne (sym (bytes_same name other e)))
      go other ne false e = refl

      apart : (other : List ℕ) → other ≢ name → bytes_eq name other ≡ false
      apart other ne = go other ne (bytes_eq name other) refl

  -- readings that have the same under all names show the same
  pub undone_shows : (now : Reading) → Leaves name th (left_buried (raises u) (slot old name).buried) old now → (c : Cell) → at now c ≡ at (with_thing (without_tomb old name (raises u)) name th) c
  undone_shows now l c = leaves_show name th (left_buried (raises u) (slot old name).buried) old now l c ∙ sym (leaves_show name th (left_buried (raises u) (slot old name).buried) old undone undone_leaves c)

-- WHAT THE UNDOING OF A NOTE LEFT IS WHAT ITS END OWES
pub leaves_undone : (t : Operations) (g : Ground) (n : Top g.C UndoNote) (x : g.X) (old now : Reading) (th : Option Thing) → g.reading x ≡ Some now → back t n.note.undoes (g.befores n.changes) (slot old n.note.name) ≡ Some th
    → Leaves n.note.name th (left_buried (raises n.note.undoes) (slot old n.note.name).buried) old now → HasUndone (setting_of (model_cells t g)) n x old
leaves_undone t g n x old now th reads possible l = record {
  now = now;
  reads = reads;
  above = λ b e c. le_of c.part (at b c) (at now c) (sym (undone_shows n.note.name n.note.undoes th old now l c
      ∙ ap (λ (p : Reading). at p c) (some_one (with_thing (without_tomb old n.note.name (raises n.note.undoes)) n.note.name th) b (sym (ap (put_back old n.note) possible) ∙ e))));
}
