-- WHAT A VERB LEFT IN PAGES AND BANDS is what its top-end owes to the log, and what the undoing of a note left, what its end owes.
use Rattle.std.proofs.Common.{◌≡◌, ℕ, List, Option, Some, option_map, Ok, refl, sym, subst}
use Rattle.sg_ops.specs.Table.{Table as Operations}
use Rattle.sg_ops.specs.Laws as ops
use Rattle.sg_action.specs.States.{State}
use Rattle.sg_alloc.specs.Flags.{map_bands_of}
use Rattle.sg_model.specs.Verb.{Verb, Reply}
use Rattle.sg_model.specs.Step.{on}
use Rattle.sg_record.specs.Changes.{Change}
use Rattle.sg_recovery.specs.Log.{Open, Top, changes_of, open_of}
use Rattle.sg_recovery.specs.Cells.{setting_of}
use Rattle.sg_recovery.specs.Keeps.{HasUndone}
use Rattle.sg_recovery.specs.Runs.{note_of, DoesVerb}
use Rattle.sg_recovery.proofs.Renaming.{top, read_does, read_undone}
use Rattle.sg_space.specs.View.{Space}
use Rattle.sg_reading.specs.Reading.{Thing, Reading, plain, slot}
use Rattle.sg_reading.specs.Back.{Undoing, UndoNote, back, raises}
use Rattle.sg_reading.specs.Noted.{noted, BringsBytes, PutsBackOf}
use Rattle.sg_reading.specs.Left.{Leaves, done_by, IsLeft, left_buried}
use Rattle.sg_reading.proofs.Does.{does_verb}
use Rattle.sg_reading.proofs.Left.{leaves_after, leaves_undone}
use Rattle.sg_contents.specs.Standing.{Contents, IsContents}
use Rattle.sg_contents.specs.Meaning.{reading}
use Rattle.sg_objects.specs.Notes.{note_said}
use Rattle.sg_reading.specs.Model.{model_cells}
use Rattle.sg_store.specs.Ground.{setting}
use Rattle.sg_reader.specs.Reader.{Reader}
use Rattle.sg_reader.proofs.Slots.{slot_formed}
use Rattle.sg_ground.specs.Ground.{pages_ground, ground, found_by}
use Rattle.sg_ground.specs.Recovers.{Recovering}

module _ (pages bands : ℕ) (reader : Reader pages bands) (recovers : Recovering) (t : Operations) where
  -- A VERB that left this in pages and bands, of contents, with its note and the before bytes of its changes
  pub left_does : ops.IsLawful t → (space : Space) (s : Contents) → IsContents space s → (by : ℕ) (name : List ℕ) (verb : Verb) (now : Reading) (reply : Reply) → BringsBytes verb → (l : IsLeft t by name verb (reading s) now)
      → (on t verb (plain (slot (reading s) name).thing)).0 ≡ Ok reply → (noted verb (slot (reading s) name).thing ≡ Undoing.WasNothing → ⊥)
      → (ds : List (Open Change)) → PutsBackOf t verb l.bands (found_by (map_bands_of pages bands) (changes_of (open_of by ds))) (slot (reading s) name).thing
      → (x : State) → option_map reading (reader.contents x) ≡ Some now → (note : List ℕ) → note_said note ≡ record { name = name; undoes = noted verb (slot (reading s) name).thing } → (lsn undo_next : ℕ)
      → DoesVerb (setting t (ground pages bands reader recovers)) (done_by (reading s) by name verb l.root l.bands)
      (note_of (setting t (ground pages bands reader recovers)) lsn by undo_next note ds (done_by (reading s) by name verb l.root l.bands).touches) x (reading s)
  left_does lawful space s h by name verb now reply bytes l said some ds puts x reads note says lsn undo_next =
      let v = done_by (reading s) by name verb l.root l.bands in
      let own = setting_of (model_cells t (pages_ground pages bands reader t)) in
      read_does own (List ℕ) note_said v (note_of (setting t (ground pages bands reader recovers)) lsn by undo_next note ds v.touches) x (reading s)
      (subst (λ (n : UndoNote). DoesVerb own v (note_of own lsn by undo_next n ds v.touches) x (reading s)) (sym says)
      (does_verb t lawful.undoable (pages_ground pages bands reader t) (done_by (reading s) by name verb l.root l.bands) name verb refl (reading s) now
      (leaves_after t (pages_ground pages bands reader t) by name verb (reading s) now l (slot_formed space s h name).0)
      reply bytes (slot_formed space s h name) said some (changes_of (open_of by ds)) puts x reads lsn by undo_next))

  -- THE UNDOING OF A NOTE that left this
  pub left_undone : (n : Top Change (List ℕ)) (x : State) (old now : Reading) (th : Option Thing) → option_map reading (reader.contents x) ≡ Some now
      → back t (note_said n.note).undoes (found_by (map_bands_of pages bands) n.changes) (slot old (note_said n.note).name) ≡ Some th → Leaves (note_said n.note).name th (left_buried (raises (note_said n.note).undoes) (slot old (note_said n.note).name).buried) old now
      → HasUndone (setting t (ground pages bands reader recovers)) n x old
  left_undone n x old now th reads possible l =
      let own = setting_of (model_cells t (pages_ground pages bands reader t)) in
      read_undone own (List ℕ) note_said n x old (leaves_undone t (pages_ground pages bands reader t) (top own (List ℕ) note_said n) x old now th reads possible l)
