-- What is proved of readings, each under a name. Those that speak of a log's steps take pages that are read in any way.
use Rattle.std.specs.Prelude.{◌≡◌, ℕ, ◌+◌, ◌*◌, ◌<◌, ◌≤◌, true, false, List, [], ◌∷◌, length, Option, Some, None, Ok, Err, is_ok}
use Rattle.std.specs.Str.{bytes_eq}
use Rattle.std.specs.FinMap.{get}
use Rattle.sg_serial.specs.Locks.{Hold, held_of, first_holder, hold_all, Touch}
use Rattle.sg_ops.specs.Table.{Table as Operations}
use Rattle.sg_model.specs.Verb.{Verb, Reply}
use Rattle.sg_model.specs.Verb.Op.{On, Names as AllNames}
use Rattle.sg_model.specs.declared.reason.Reason.{Reason}
use Rattle.sg_model.specs.Step.{on, step}
use Rattle.sg_model.specs.Undo.{undo}
use Rattle.sg_model.specs.Touches.{Cell, Resource, same_resource, conflict, cell}
use Rattle.sg_model.specs.Touches.Region.{Everything}
use Rattle.sg_model.specs.Touches.Resource.{Of}
use Rattle.sg_recovery.specs.Setting.{Setting}
use Rattle.sg_recovery.specs.Log.{Tally, Top, changes_of, open_of, open_not_of, is_in}
use Rattle.sg_recovery.specs.Log.Record.{TopEnd}
use Rattle.sg_recovery.specs.Stands.{settled, wanted}
use Rattle.sg_recovery.specs.Laws.{Each, Laws}
use Rattle.sg_recovery.specs.Keeps.{top_of, HasUndone}
use Rattle.sg_recovery.specs.Shows.{Entry}
use Rattle.sg_recovery.specs.Cells.{After, CellLaws, setting_of}
use Rattle.sg_recovery.specs.Runs.{Goes, DoesVerb, IsGranted, Locks}
use Rattle.sg_reading.specs.Reading.{Thing, Tomb, Reading, plain, objects, Slot, slot, at}
use Rattle.sg_reading.specs.Back.{Undoing, UndoNote, Before, Patch, located, laid, place_of, back, raises, without_tomb, unstep}
use Rattle.sg_reading.specs.Did.{Did, slot_after, grown, IsAt, done}
use Rattle.sg_reading.specs.Model.{Ground, model_cells}
use Rattle.sg_reading.specs.Noted.{BringsBytes, BringsBack, noted, PutsBack, PutsBackOf, IsFormedThing, IsFormed, IsFormedSlot, AreUndone}
use Rattle.sg_reading.specs.Strokes.{Alike, AllWrote, contents, written, AreDistinct, AreWhole}
use Rattle.sg_reading.specs.Possible.{IsPossible}
use Rattle.sg_reading.specs.Plainly.{plainly, unstep_plain}
use Rattle.sg_reading.specs.Left.{IsLeft, Leaves, done_by, left_buried, TakesForBody, tomb_cell, around, IsOfObject}

-- the log's setting over these pages
abbrev pub log_of : Operations → Ground → Setting
log_of t g = setting_of (model_cells t g)

-- CELLS. A verb reads and writes the cells that its touches say, the undoing of a note those that it touches, whatever the rest
-- of the reading is
abbrev pub KeepsToCells : Ground → Type 0
KeepsToCells g = (t : Operations) → CellLaws (model_cells t g)

-- so notes and verbs of transactions that hold different cells change places
abbrev pub ChangesPlaces : Ground → Type 0
ChangesPlaces g = (t : Operations) → Laws (log_of t g)

-- OBJECTS. Under each name the objects of a reading have what the reading has,
abbrev pub ShowsObjects : Type 0
ShowsObjects = (o : Reading) (name : List ℕ) → get (objects o) name ≡ plain (slot o name).thing

-- and in each cell what the reading shows there
abbrev pub ShowsCells : Type 0
ShowsCells = (o : Reading) (c : Cell) → cell (objects o) c ≡ (at o c).value

-- VERBS. What an accepted verb leaves is one of the readings that may follow it,
abbrev pub VerbLeaves : Ground → Type 0
VerbLeaves g = (t : Operations) (by : ℕ) (name : List ℕ) (verb : Verb) (old now : Reading) → (left : IsLeft t by name verb old now)
    → IsFormed (slot old name).thing → After (model_cells t g) (done_by old by name verb left.root left.bands) old now

-- and there is such a reading of each formed one, whatever its root page and its bands are,
abbrev pub VerbCanBeDone : Ground → Type 0
VerbCanBeDone g = (t : Operations) (d : Did) (name : List ℕ) (verb : Verb) (o : Reading) → d.op ≡ On name verb → IsAt d o → IsFormed (slot o name).thing
    → TakesForBody verb (slot o name).thing d.bands → After (model_cells t g) d o (done t d o)

-- whose objects are those that the step of the objects gives
abbrev pub VerbIsStep : Type 0
VerbIsStep = (t : Operations) (d : Did) (name : List ℕ) (verb : Verb) (o : Reading) → d.op ≡ On name verb → IsAt d o → IsFormed (slot o name).thing
    → TakesForBody verb (slot o name).thing d.bands → objects (done t d o) ≡ (step t (objects o) d.op).1

-- A verb that leaves its object as it was leaves the reading as it was,
abbrev pub VerbLooks : Ground → Type 0
VerbLooks g = (t : Operations) (d : Did) (name : List ℕ) (verb : Verb) (o : Reading) → d.op ≡ On name verb → IsAt d o → IsFormed (slot o name).thing → d.bands ≡ []
    → (on t verb (plain (slot o name).thing)).1 ≡ plain (slot o name).thing → After (model_cells t g) d o o

-- so does one that is refused,
abbrev pub VerbIsRefused : Ground → Type 0
VerbIsRefused g = (t : Operations) (d : Did) (name : List ℕ) (verb : Verb) (o : Reading) → d.op ≡ On name verb → IsAt d o → IsFormed (slot o name).thing → d.bands ≡ []
    → (reason : Reason) → (on t verb (plain (slot o name).thing)).0 ≡ Err reason → After (model_cells t g) d o o

-- and so does a listing of the names
abbrev pub ListLooks : Ground → Type 0
ListLooks g = (t : Operations) (d : Did) (o : Reading) → d.op ≡ AllNames → IsAt d o → After (model_cells t g) d o o

-- what stands under a name stays formed
abbrev pub VerbStaysFormed : Type 0
VerbStaysFormed = (t : Operations) → AreUndone t → (d : Did) (verb : Verb) (thing : Option Thing) → BringsBytes verb → IsFormed thing
    → IsFormed (grown d verb (is_ok (on t verb (plain thing)).0) thing (on t verb (plain thing)).1)

-- THE NOTE OF A VERB, undone in any reading that may follow the verb, leaves no less than there was before it, and touches what
-- the verb touched. That is what the end of the verb's action owes to the log
abbrev pub VerbIsUndone : Ground → Type 0
VerbIsUndone g = (t : Operations) → AreUndone t → (d : Did) (name : List ℕ) (verb : Verb) → d.op ≡ On name verb
    → (old now : Reading) → After (model_cells t g) d old now
    → (reply : Reply) → BringsBytes verb → IsFormedSlot (slot old name) → (on t verb (plain (slot old name).thing)).0 ≡ Ok reply
    → (noted verb (slot old name).thing ≡ Undoing.WasNothing → ⊥)
    → (changes : List g.C) → PutsBackOf t verb d.bands (g.befores changes) (slot old name).thing
    → (x : g.X) → g.reading x ≡ Some now → (lsn by undo_next : ℕ)
    → DoesVerb (log_of t g) d
    (record { lsn = lsn; transaction = by; undo_next = undo_next; note = record { name = name; undoes = noted verb (slot old name).thing }; changes = changes; place = d.touches }) x old

-- A LINE whose verb got its locks, was accepted and is noted goes on in the running store
abbrev pub LineGoes : Ground → Type 0
LineGoes g = (t : Operations) → AreUndone t → (k : Tally g.C UndoNote) (x : g.X) (h : List (Entry Did)) (hs : List (Hold Resource)) (lsn by previous undo_next : ℕ)
    → (d : Did) (name : List ℕ) (verb : Verb) (reply : Reply) (old now : Reading)
    → is_in by k.live ≡ true → open_not_of by k.opened ≡ [] → undo_next < lsn → Each (λ m. m.transaction ≡ by → m.lsn ≤ undo_next) k.notes
    → first_holder conflict by d.touches hs ≡ None
    → settled (log_of t g) k.opened x ≡ Some old → g.reading x ≡ Some now
    → d.op ≡ On name verb → After (model_cells t g) d old now
    → BringsBytes verb → IsFormedSlot (slot old name) → (on t verb (plain (slot old name).thing)).0 ≡ Ok reply → (noted verb (slot old name).thing ≡ Undoing.WasNothing → ⊥)
    → PutsBackOf t verb d.bands (g.befores (changes_of (open_of by k.opened))) (slot old name).thing
    → ((o : Reading) → g.reading x ≡ Some o
    → wanted (log_of t g) (top_of (log_of t g) lsn by undo_next (record { name = name; undoes = noted verb (slot old name).thing }) k.opened ∷ k.notes) ≤ g.free o)
    → Goes (log_of t g) k x h (held_of (hold_all same_resource by d.touches hs)) lsn
    (TopEnd by previous undo_next (record { name = name; undoes = noted verb (slot old name).thing })) (record { transaction = by; at = lsn; verb = d } ∷ h)

-- NOTES. What the undoing of one left under its name is what its end owes to the log,
abbrev pub NoteLeaves : Ground → Type 0
NoteLeaves g = (t : Operations) (n : Top g.C UndoNote) (x : g.X) (old now : Reading) (thing : Option Thing) → g.reading x ≡ Some now
    → back t n.note.undoes (g.befores n.changes) (slot old n.note.name) ≡ Some thing
    → Leaves n.note.name thing (left_buried (raises n.note.undoes) (slot old n.note.name).buried) old now → HasUndone (log_of t g) n x old

-- and so is a reading that shows in each cell what `unstep` gives
abbrev pub NoteIsUndone : Ground → Type 0
NoteIsUndone g = (t : Operations) (n : Top g.C UndoNote) (x : g.X) (old now : Reading) → g.reading x ≡ Some now
    → ((b : Reading) → unstep t old n.note (g.befores n.changes) ≡ Some b → (c : Cell) → at now c ≡ at b c) → HasUndone (log_of t g) n x old

-- a note can be undone where `IsPossible` says so,
abbrev pub NoteCanBeUndone : Type 0
NoteCanBeUndone = (t : Operations) → AreUndone t → (u : Undoing) (cs : List Before) (s : Slot) → BringsBack u → IsFormed s.thing
    → IsPossible t u cs s → (thing : Option Thing) × (back t u cs s ≡ Some thing)

-- and only there
abbrev pub NoteOnlyWhere : Type 0
NoteOnlyWhere = (t : Operations) → AreUndone t → (u : Undoing) (cs : List Before) (s : Slot) (thing : Option Thing) → BringsBack u → IsFormed s.thing
    → back t u cs s ≡ Some thing → IsPossible t u cs s

-- what stands under the name stays formed
abbrev pub NoteStaysFormed : Type 0
NoteStaysFormed = (t : Operations) → AreUndone t → (u : Undoing) (cs : List Before) (s : Slot) (thing : Option Thing) → BringsBack u → IsFormed s.thing
    → ((root : ℕ) (tomb : Tomb) → s.buried root ≡ Some tomb → IsFormedThing tomb.thing) → back t u cs s ≡ Some thing → IsFormed thing

-- A note changes no root, peak or band of the object that it is undone on,
abbrev pub NoteKeepsAround : Type 0
NoteKeepsAround = (t : Operations) (u : Undoing) (cs : List Before) (s : Slot) (thing : Option Thing) → IsOfObject u → back t u cs s ≡ Some thing → around thing ≡ around s.thing

-- nor the catalogue's peak, nor anything of other names
abbrev pub NoteKeepsOthers : Type 0
NoteKeepsOthers = (t : Operations) (o : Reading) (n : UndoNote) (cs : List Before) (p : Reading) → unstep t o n cs ≡ Some p
    → (p.peak ≡ o.peak) × ((name : List ℕ) → bytes_eq n.name name ≡ false → slot p name ≡ slot o name)

-- Its objects are those that the note over plain objects gives,
abbrev pub NoteIsPlain : Type 0
NoteIsPlain = (t : Operations) (o : Reading) (n : UndoNote) (cs : List Before) (p : Reading) → unstep t o n cs ≡ Some p
    → objects p ≡ unstep_plain (objects o) (n.name, plainly t n.undoes cs (slot o n.name))

-- and where a verb left it, that note gives what there was before the verb
abbrev pub VerbIsTakenBack : Type 0
VerbIsTakenBack = (t : Operations) → AreUndone t → (d : Did) (cs : List Before) (verb : Verb) (s : Slot) (reply : Reply) → BringsBytes verb → IsFormed s.thing
    → (on t verb (plain s.thing)).0 ≡ Ok reply → PutsBackOf t verb d.bands cs s.thing
    → undo (plainly t (noted verb s.thing) cs (slot_after t d verb s)) (on t verb (plain s.thing)).1 ≡ plain s.thing

-- BEFORE BYTES of segment records that found what stood there, put back the last first, give the bytes that there were, and
-- zeros behind them
abbrev pub BytesComeBack : Type 0
BytesComeBack = (bands : List ℕ) (cs : List Before) (patches : List Patch) (new old : List ℕ) → located bands cs ≡ Some patches → AllWrote patches new old → PutsBack bands cs new old

-- A segment record on the band at index j writes among the blob's bytes at 32,768 j and its place on the band
abbrev pub BandIsWritten : Type 0
BandIsWritten = (band_bytes : ℕ → List ℕ) (band from : ℕ) (new : List ℕ) (bands : List ℕ) (j : ℕ) → place_of bands band ≡ Some j → AreDistinct bands → AreWhole band_bytes bands
    → from + length new ≤ 32768
    → Alike (contents (written band_bytes band from new) bands) (laid (record { from = 32768 * j + from; bytes = new }) (contents band_bytes bands))

-- LOCKS. Where the lock table names no holder in conflict, the verb is clear of what the others hold,
abbrev pub FreeIsGranted : Ground → Type 0
FreeIsGranted g = (t : Operations) (hs : List (Hold Resource)) (live : List ℕ) (by : ℕ) (d : Did) → first_holder conflict by d.touches hs ≡ None → IsGranted (log_of t g) (held_of hs) live by d

-- what is held then is more for its transaction, and as before for the others,
abbrev pub HoldsMore : Ground → Type 0
HoldsMore g = (t : Operations) (hs : List (Hold Resource)) (by : ℕ) (touches : List (Touch Resource)) → Locks (log_of t g) by (held_of hs) (held_of (hold_all same_resource by touches hs))

-- and it has what was asked for
abbrev pub HoldsTouches : Ground → Type 0
HoldsTouches g = (t : Operations) (hs : List (Hold Resource)) (by : ℕ) (touches : List (Touch Resource)) → (log_of t g).Within touches (held_of (hold_all same_resource by touches hs) by)

-- FREEING. Without a tombstone the reading is the same, but in the tombstone's cell,
abbrev pub TombIsFreed : Ground → Type 0
TombIsFreed g = (t : Operations) (o : Reading) (name : List ℕ) (root : ℕ) → (log_of t g).Freed (tomb_cell name root) o (without_tomb o name (Some root))

-- which no other transaction holds while nobody is in the way of a lock on all of the name
abbrev pub TombIsApart : Ground → Type 0
TombIsApart g = (t : Operations) (hs : List (Hold Resource)) (by other : ℕ) (name : List ℕ) (root : ℕ) → (other ≡ by → ⊥)
    → first_holder conflict by (record { what = Of name Everything; write = true } ∷ []) hs ≡ None → (log_of t g).Apart (tomb_cell name root) (held_of hs other)
