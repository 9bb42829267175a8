-- THE GROUND OF THE STORE: pages and bands as states, changes as the log's records hold them, readings, notes, and verbs as they
-- were done.
use Rattle.std.specs.Prelude.{◌≡◌, ℕ, ◌-◌, true, false, not, List, map, [], ◌∷◌, Some, option_map}
use Rattle.std.specs.FinMap.{get, len}
use Rattle.sg_alloc.specs.Flags.{map_bands_of}
use Rattle.sg_action.specs.States.{State, apply, fits}
use Rattle.sg_ops.specs.Table.{Table as Operations}
use Rattle.sg_serial.specs.Machine.{any_touch}
use Rattle.sg_serial.specs.Locks.{Touch, writes}
use Rattle.sg_model.specs.Touches.{Cell, covers}
use Rattle.sg_model.specs.Verb.{Op}
use Rattle.sg_model.specs.Verb.Op.{On, Names}
use Rattle.sg_record.specs.Changes.{Change}
use Rattle.sg_recovery.specs.Cells.{After}
use Rattle.sg_recovery.specs.Log.{Open}
use Rattle.sg_reading.specs.Reading.{Tomb, Reading, objects, at, Le}
use Rattle.sg_reading.specs.Left.{tomb_cell}
use Rattle.sg_model.specs.Touches.{Resource}
use Rattle.sg_reading.specs.Back.{Undoing, UndoNote, Before, unstep, note_touches, inside}
use Rattle.sg_reading.specs.Back.Undoing.{WasBytes}
use Rattle.sg_reading.specs.Did.{Did}
use Rattle.sg_reading.specs.Model as model
use Rattle.sg_reading.specs.Model.{wants_page, is_tomb, model_cells}
use Rattle.sg_before.specs.Laying.{put_on}
use Rattle.sg_before.specs.Befores.{befores}
use Rattle.sg_contents.specs.Standing.{Contents}
use Rattle.sg_contents.specs.Meaning.{reading}
use Rattle.sg_objects.specs.Needs.{Needed, needed}
use Rattle.sg_objects.specs.Notes.{note_said}
use Rattle.sg_store.specs.Ground.{Ground, Needs}
use Rattle.sg_room.specs.Marks.{marks_of, kind_of}
use Rattle.sg_reader.specs.Alike.{IsAlike}
use Rattle.sg_reader.specs.Reader.{Reader}
use Rattle.sg_actions.specs.Changes.{meaning, comp_of}
use Rattle.sg_actions.specs.Undoing.{is_of_bytes}
use Rattle.sg_ground.specs.Recovers.{Recovering}

-- the bytes that some changes found in bands behind the map's, the last first
abbrev pub found_by : (kept : ℕ) → List Change → List Before
found_by kept cs = befores kept (map meaning cs)

-- what readings are taken of: states, by what a reader finds in them. What isn't reached is free
abbrev pub pages_ground : (pages bands : ℕ) → Reader pages bands → Operations → model.Ground
pages_ground pages bands reader t = record {
  X = State;
  C = Change;
  apply = λ x c. apply t x (meaning c);
  fits = λ x c. fits t x (meaning c);
  inverse = comp_of;
  reading = λ x. option_map reading (reader.contents x);
  befores = found_by (map_bands_of pages bands);
  free = λ o. pages - o.pages;
}

-- what an operation needs, by what stands under its name

abbrev pub as_needs : Needed → Needs
as_needs n = record { pages = n.pages; bands = n.bands; reserve = n.reserve }

abbrev pub needs : Reading → Op → Needs
needs o (On name verb) = as_needs (needed verb (get o.things name))
needs o Names = record { pages = 0; bands = 0; reserve = 0 }

-- THE BYTES THAT A NOTE'S UNDOING PUTS BACK: where the note is one of bytes, what its action found in bands behind the map's. A band
-- of the map stays, and what filled a taken band found nothing
abbrev pub bytes_of : Undoing → List Before → List Before
bytes_of (WasBytes size) cs = cs
bytes_of other cs = []

abbrev pub found_of : (kept : ℕ) → UndoNote → List Change → List Before
found_of kept n cs = bytes_of n.undoes (found_by kept cs)

-- the second pages are the first, and so many of them, and the second bands are the first with these bytes put back
pub record PutsBack (found : List Before) (x y : State) : Type 0 where
  pub size : y.size ≡ x.size
  pub pages : y.pages ≡ x.pages
  pub bands : (b : ℕ) → y.bands b ≡ put_on found b (x.bands b)

-- WHAT A NOTE ASKS FOR IS BACK: bytes in bands, by open changes, where it is one of bytes. Where it is any other, no change is open
pub record HasPutBack (found : List Before) (note : List ℕ) (opened : List (Open Change)) (x y : State) : Type 0 where
  pub puts : PutsBack found x y
  pub still : is_of_bytes note ≡ false → opened ≡ []

-- WHAT IS BURIED: a tombstone of this dropper, whose place is its own cell
pub record IsBuried (o : Reading) (by : ℕ) (place : List (Touch Resource)) : Type 0 where
  pub root : ℕ
  pub name : List ℕ
  pub tomb : Tomb
  pub there : get o.tombs (root ∷ name) ≡ Some tomb
  pub dropper : tomb.dropper ≡ by
  pub cell : place ≡ tomb_cell name root

-- THE GROUND, with what says which images come to which log and state. A note is its bytes, as the log holds them, and says what they say
abbrev pub ground : (pages bands : ℕ) → Reader pages bands → Recovering → Ground
ground pages bands reader recovers = record {
  X = State;
  C = Change;
  O = Reading;
  N = List ℕ;
  V = Did;
  apply = λ t x c. apply t x (meaning c);
  fits = λ t x c. fits t x (meaning c);
  inverse = comp_of;
  reading = λ x. option_map reading (reader.contents x);
  unstep = λ t o n cs. unstep t o (note_said n) (found_by (map_bands_of pages bands) cs);
  free = λ o. pages - o.pages;
  buried = λ o. len o.tombs;
  Buried = IsBuried;
  wants = λ n. wants_page (note_said n).undoes;
  objects = objects;
  sizes = record { pages = pages; bands = bands; map = map_bands_of pages bands };
  marks = marks_of;
  named = λ n. (note_said n).name;
  kind = λ n. kind_of (note_said n).undoes;
  op = λ v. v.op;
  touched = λ v. v.touches;
  Below = λ o p. (c : Cell) → Le c.part (at o c) (at p c);
  After = λ t. After (model_cells t (pages_ground pages bands reader t));
  Freed = λ f o p. ((c : Cell) → any_touch (writes covers) f c ≡ false → at p c ≡ at o c) × ((c : Cell) → any_touch (writes covers) f c ≡ true → not (is_tomb c.part) ≡ false);
  can_undo = λ o n cs w. inside (note_touches o (note_said n)) w;
  needs = λ t. needs;
  note = λ bytes. bytes;
  PutsBack = λ t n cs os x y. HasPutBack (found_of (map_bands_of pages bands) (note_said n) cs) n os x y;
  Alike = λ y x. (s : Contents) → reader.contents x ≡ Some s → IsAlike s x y;
  Recovers = recovers;
}
