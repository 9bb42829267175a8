-- WHAT THE STORE'S CLAUSES OF perform AND reverse SAY AT THE GROUND, from what the objects' calls do to a space.
use Rattle.std.specs.Prelude.{◌≡◌, ℕ, ◌+◌, ◌<◌, true, List, [], Option, Some, None, option_map, Ok, Err}
use Rattle.std.specs.FinMap.{get}
use Rattle.sg_base.specs.declared.numbers.TxnId.{TxnId}
use Rattle.sg_catalog.specs.Catalog.{rows, buried}
use Rattle.sg_catalog.specs.declared.row.Row.{Row}
use Rattle.sg_alloc.specs.Flags.{map_bands_of}
use Rattle.sg_base.specs.Spelling.{is_name}
use Rattle.sg_ops.specs.Table.{Table as Operations}
use Rattle.sg_ops.specs.Laws as ops
use Rattle.sg_model.specs.declared.reason.Reason.{Reason}
use Rattle.sg_model.specs.Verb.{Verb, Reply}
use Rattle.sg_model.specs.Verb.Op.{On}
use Rattle.sg_record.specs.Changes.{Change}
use Rattle.sg_recovery.specs.Log.{Top, tally, changes_of, open_of}
use Rattle.sg_recovery.specs.Runs.{DoesFree}
use Rattle.sg_reading.specs.Reading.{Thing, Reading, slot}
use Rattle.sg_reading.specs.Back.{Undoing, back}
use Rattle.sg_reading.specs.Left.{IsLeft}
use Rattle.sg_reading.specs.Noted.{BringsBytes, PutsBackOf}
use Rattle.sg_reading.specs.Left.{tomb_cell}
use Rattle.sg_space.specs.View.{Space}
use Rattle.sg_before.specs.Forgot.{Forgets}
use Rattle.sg_room.specs.Marks.{marks_of, freed as freed_in}
use Rattle.sg_before.specs.Laying.{put_on}
use Rattle.sg_contents.specs.Standing.{Contents, IsContents}
use Rattle.sg_contents.specs.Meaning.{reading, IsCounted}
use Rattle.sg_objects.specs.Done.{IsDone}
use Rattle.sg_objects.specs.Undone.{IsUndone}
use Rattle.sg_objects.specs.Needs.{needed, needed_back, IsFree}
use Rattle.sg_objects.specs.Notes.{note_said}
use Rattle.sg_store.specs.Ground.{setting}
use Rattle.sg_store.specs.Engine.{View, Action, pages_of, IsIdle, Changes, Changed}
use Rattle.sg_serial.specs.Locks.{Touch}
use Rattle.sg_model.specs.Touches.{Resource}
use Rattle.sg_store.specs.Verbs.{IsBy, NoneOf, Reads, CanPerform, LeftAlone, IsNotedBy, IsRefused, CanReverse, Reversed}
use Rattle.sg_reader.specs.Alike.{ReadsAs, IsPartOf, HasReached}
use Rattle.sg_ground.specs.Ground.{found_by, found_of}
use Rattle.sg_ground.specs.Theorem.{Basis, ground_of}

-- A SPACE SHOWS what the engine's pages and bands hold: what it has of them, and how many are free
pub record Shows (b : Basis) (t : Operations) (v : View (ground_of b)) (space : Space) : Type 0 where
  pub pages : space.pages.count ≡ b.pages
  pub bands : space.bands.count ≡ b.bands
  pub part : IsPartOf space (pages_of t (ground_of b) v)
  -- each page and band that is there has a number below these
  pub page_below : (p : ℕ) → (space.pages.at p ≡ None → ⊥) → p < space.pages.count
  pub band_below : (n : ℕ) → (space.bands.at n ≡ None → ⊥) → n < space.bands.count
  pub free_pages : v.free_pages ≡ space.pages.free
  pub free_bands : v.free_bands ≡ space.bands.free

-- what the pages reach is taken
abbrev pub IsTaken : (b : Basis) (t : Operations) → View (ground_of b) → Space → Type 0
IsTaken b t v space = (s : Contents) → ReadsAs space.pages.count space.bands.count (pages_of t (ground_of b) v) s → HasReached space (pages_of t (ground_of b) v) s

-- what the pages read as, there are contents of: the premises of perform
abbrev pub ContentsAreThere : Basis → Type 0
ContentsAreThere b = (t : Operations) (v : View (ground_of b)) (space : Space) (o : Reading) → Shows b t v space → IsTaken b t v space → (ground_of b).reading (pages_of t (ground_of b) v) ≡ Some o
    → (s : Contents) × IsContents space s × (reading s ≡ o)

abbrev pub RoomIsThere : Basis → Type 0
RoomIsThere b = (t : Operations) (v : View (ground_of b)) (space : Space) (o : Reading) (name : List ℕ) (verb : Verb) → Shows b t v space → CanPerform t (ground_of b) v o (On name verb) → IsFree (needed verb (get o.things name)) space

-- Reads
abbrev pub ContentsAreRead : Basis → Type 0
ContentsAreRead b = (t : Operations) (v : View (ground_of b)) (space : Space) (s : Contents) → Shows b t v space → IsContents space s → IsCounted space s → Reads t (ground_of b) v (reading s)

-- LeftAlone, of a verb without a note. No change waits for the action's end
abbrev pub IsLeftAlone : Basis → Type 0
IsLeftAlone b = (t : Operations) → ops.IsLawful t → (a : Action (ground_of b)) (v w : View (ground_of b)) (old new : Space) (s s' : Contents) (by : ℕ) (name : List ℕ) (verb : Verb) (reply : Reply)
    → Shows b t v old → Shows b t w new → IsContents old s → IsDone t by name verb (Ok reply) [] old new s s'
    → (c : Changes t (ground_of b) a v w) → Changed t (ground_of b) a v w c.made → IsIdle w
    → LeftAlone t (ground_of b) v w (reading s) (On name verb)

-- IsNotedBy, of a verb with one
abbrev pub IsNotedSo : Basis → Type 0
IsNotedSo b = (t : Operations) → ops.IsLawful t → (a : Action (ground_of b)) (w : View (ground_of b)) (old new : Space) (s s' : Contents) (name : List ℕ) (verb : Verb) (reply : Reply) (note : List ℕ)
    → old.pages.count ≡ b.pages → Shows b t w new → IsContents old s → IsCounted old s → IsDone t a.transaction name verb (Ok reply) note old new s s' → (note ≡ [] → ⊥)
    → is_name name ≡ true → BringsBytes verb
    → ((l : IsLeft t a.transaction name verb (reading s) (reading s')) → PutsBackOf t verb l.bands (found_by (map_bands_of b.pages b.bands) (changes_of (open_of a.transaction (tally w.log).opened))) (get (reading s).things name))
    → IsNotedBy t (ground_of b) a w (reading s) (On name verb) note

-- IsRefused
abbrev pub IsRefusedSo : Basis → Type 0
IsRefusedSo b = (t : Operations) (a : Action (ground_of b)) (v w : View (ground_of b)) (old new : Space) (s s' : Contents) (by : ℕ) (name : List ℕ) (verb : Verb) (reason : Reason) (note : List ℕ)
    → Shows b t v old → Shows b t w new → IsDone t by name verb (Err reason) note old new s s'
    → (c : Changes t (ground_of b) a v w) → Changed t (ground_of b) a v w c.made → IsIdle w
    → IsRefused t (ground_of b) v w (reading s) (On name verb) reason

-- THE PREMISES of reverse, from CanReverse: the note can be undone, where it is none of bytes by what the pages now read as; and a
-- page is free
pub record CanBeReversed (b : Basis) (t : Operations) (v : View (ground_of b)) (space : Space) (o : Reading) (n : Top Change (List ℕ)) : Type 0 where
  pub th : Option Thing
  pub possible : back t (note_said n.note).undoes (found_by (map_bands_of b.pages b.bands) n.changes) (slot o (note_said n.note).name) ≡ Some th
  pub plain : ((size : ℕ) → (note_said n.note).undoes ≡ Undoing.WasBytes size → ⊥) → ((ground_of b).reading (pages_of t (ground_of b) v) ≡ Some o) × (back t (note_said n.note).undoes [] (slot o (note_said n.note).name) ≡ Some th)
  pub free : IsFree (needed_back (note_said n.note).undoes) space

abbrev pub ReverseIsPossible : Basis → Type 0
ReverseIsPossible b = (t : Operations) (a : Action (ground_of b)) (v : View (ground_of b)) (space : Space) (o : Reading) (n : Top Change (List ℕ)) → Shows b t v space → CanReverse t (ground_of b) a v o n → CanBeReversed b t v space o n

-- A NOTE OF BYTES is undone where its action's begin was, with what it found put back: there are contents in the space with the
-- bands as they were then, and the bands are these with the bytes put back
abbrev pub with_bands : Space → (ℕ → List ℕ) → Space
with_bands now bands = record now { bands = record now.bands { at = λ n. option_map (λ _. bands n) (now.bands.at n) } }

pub record AreBytesBack (b : Basis) (t : Operations) (a : Action (ground_of b)) (space : Space) (o : Reading) (n : Top Change (List ℕ)) : Type 0 where
  pub contents : Contents
  pub reads : IsContents (with_bands space a.pages.bands) contents
  pub same : reading contents ≡ o
  pub put_back : (k : ℕ) (bytes : List ℕ) → (with_bands space a.pages.bands).bands.at k ≡ Some bytes → space.bands.at k ≡ Some (put_on (found_of (map_bands_of b.pages b.bands) (note_said n.note) n.changes) k bytes)
  pub none : (k : ℕ) → (with_bands space a.pages.bands).bands.at k ≡ None → space.bands.at k ≡ None

abbrev pub BytesAreBack : Basis → Type 0
BytesAreBack b = (t : Operations) (a : Action (ground_of b)) (v : View (ground_of b)) (space : Space) (o : Reading) (n : Top Change (List ℕ)) → Shows b t v space
    → ((s : Contents) → ReadsAs space.pages.count space.bands.count a.pages s → HasReached space (pages_of t (ground_of b) v) s) → CanReverse t (ground_of b) a v o n → AreBytesBack b t a space o n

-- Reversed. For a note of bytes the first space is the one at the action's begin
abbrev pub IsReversedSo : Basis → Type 0
IsReversedSo b = (t : Operations) (w : View (ground_of b)) (was new : Space) (s s' : Contents) (n : Top Change (List ℕ)) (th : Option Thing)
    → was.pages.count ≡ b.pages → Shows b t w new → IsCounted was s → back t (note_said n.note).undoes (found_by (map_bands_of b.pages b.bands) n.changes) (slot (reading s) (note_said n.note).name) ≡ Some th
    → IsUndone (note_said n.note).undoes (note_said n.note).name was new s th s'
    → Reversed t (ground_of b) w (reading s) n

-- A TOMBSTONE THAT IS FORGOTTEN, of a dropper who was asked for, is freed in its cell; one less is buried, and no other
pub record IsTombFreed (b : Basis) (t : Operations) (w : View (ground_of b)) (by : Option TxnId) (row : Row) (s s' : Contents) : Type 0 where
  pub dropper : ℕ
  pub was : (ground_of b).Buried (reading s) dropper (tomb_cell row.name row.root.0)
  pub of : IsBy by dropper
  pub freed : DoesFree (setting t (ground_of b)) (tomb_cell row.name row.root.0) (pages_of t (ground_of b) w) (reading s)
  pub stock : freed_in dropper (marks_of (reading s')) ≡ freed_in dropper (marks_of (reading s))
  pub fewer : (ground_of b).buried (reading s) ≡ (ground_of b).buried (reading s') + 1
  pub left : (d : ℕ) (f : List (Touch Resource)) → (ground_of b).Buried (reading s') d f → (ground_of b).Buried (reading s) d f

abbrev pub IsFreedSo : Basis → Type 0
IsFreedSo b = (t : Operations) (w : View (ground_of b)) (old new : Space) (s s' : Contents) (by : Option TxnId) (row : Row) → IsContents old s → Shows b t w new → IsContents new s' → buried by (rows s.catalog) ≡ Some row → Forgets row.name row.root.0 (reading s) (reading s')
    → IsTombFreed b t w by row s s'

-- and where no row is one, nothing is buried of that dropper, or nothing at all
abbrev pub NoneIsBuried : Basis → Type 0
NoneIsBuried b = (s : Contents) (by : Option TxnId) → buried by (rows s.catalog) ≡ None → NoneOf (ground_of b) by (reading s)
