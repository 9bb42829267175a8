-- THE LAWS OF THE STOCK OVER HISTORIES.
use Rattle.std.specs.Prelude.{◌≡◌, ℕ, ◌+◌, ◌≤◌, max, is_ok, true, false, ◌||◌, map, List, [], ◌∷◌, ◌++◌, Option, Some}
use Rattle.std.specs.List.{sum_by}
use Rattle.std.specs.Ordering.{nat_cmp}
use Rattle.std.specs.Cmp.Lexicographic.{slice_cmp}
use Rattle.std.specs.FinMap.{get, entries, len, from_entries}
use Rattle.sg_ops.specs.Table.{Table as Operations}
use Rattle.sg_model.specs.Objects.{Object, Objects}
use Rattle.sg_model.specs.Verb.{Verb}
use Rattle.sg_model.specs.Step.{on}
use Rattle.sg_model.specs.Verb.Op.{On}
use Rattle.sg_model.specs.Touches.{Cell, Resource, covers, touches}
use Rattle.sg_model.specs.Touches.Part.{Kind as KindPart}
use Rattle.sg_serial.specs.Machine.{any_touch}
use Rattle.sg_serial.specs.Locks.{Touch, reads, writes}
use Rattle.sg_recovery.specs.Stands.{stands_at, settled}
use Rattle.sg_recovery.specs.Log.{Tally, Top, notes_not_of}
use Rattle.sg_recovery.specs.Laws.{Note, Each, all_gone_back}
use Rattle.sg_recovery.specs.Shows.{Entry, Choice, IsUpward, IsOf, Running}
use Rattle.sg_reading.specs.Reading.{Thing, Tomb, Reading, plain, objects, slot}
use Rattle.sg_reading.specs.Back.{without_tomb, Undoing, UndoNote, Before, back, raises, unstep}
use Rattle.sg_reading.specs.Noted.{noted, IsRootFree}
use Rattle.sg_reading.specs.Left.{Leaves, IsLeft, left_buried}
use Rattle.sg_reading.specs.Model.{Ground}
use Rattle.sg_reading.specs.Model.{bare_ground}
use Rattle.sg_room.specs.Marks.{Mark, Marks, marks_of, NamesRoots, marks_after, peak_of, kind_of, kind_by, undone, freed, stock_with, stock_of}
use Rattle.sg_room.specs.Steps.{Step, chosen, RunStock, undone_all, did, backed, reserved_in, readings, steps_of}
use Rattle.sg_room.specs.Lines.{without_grave, ShowsStock, top_step, top_steps, less_one, FreesTombs, committed, ShowsUndone, settled_marks, UndoesEach, IsLow, LeavesPeaks, thing_holding, tomb_holding, AreDistinct}
use Rattle.sg_room.specs.Most.{AreAtMost, Stands, ApartSteps, AreApart, BothThere, FreeRoot, Leads, Spares, is_idle}

-- what an accepted verb left of the rows of the catalogue
abbrev pub CountsRows : Reading → Reading → Type 0
CountsRows old now = now.peak ≡ max old.peak (len now.things + len now.tombs)

pub record StockLaws (t : Operations) (g : Ground) : Type 0 where
  -- of readings: a verb, the undoing of a note, all notes of a log's losers, the freeing of a transaction's tombstones
  pub verb : (by : ℕ) (name : List ℕ) (verb : Verb) (old now : Reading) (l : IsLeft t by name verb old now) → NamesRoots old → NamesRoots now → CountsRows old now
      → marks_of now ≡ marks_after t by l.root name verb (get (objects old) name) (marks_of old)
  pub unstep : (o : Reading) (n : UndoNote) (cs : List Before) (p : Reading) → unstep t o n cs ≡ Some p → NamesRoots o → marks_of p ≡ undone (kind_of n.undoes) n.name (marks_of o)
  pub left_undone : (cs : List Before) (name : List ℕ) (u : Undoing) (th : Option Thing) (old now : Reading) → back t u cs (slot old name) ≡ Some th → Leaves name th (left_buried (raises u) (slot old name).buried) old now
      → NamesRoots old → NamesRoots now → now.peak ≡ old.peak → marks_of now ≡ undone (kind_of u) name (marks_of old)
  pub gone_back : (ns : List (Note (readings t g))) (o q : Reading) → all_gone_back (readings t g) ns o ≡ Some q → NamesRoots o → (marks_of q ≡ undone_all (steps_of t g ns) (marks_of o)) × NamesRoots q
  pub frees : (u : ℕ) (old now : Reading) → FreesTombs u old now → marks_of now ≡ freed u (marks_of old)
  pub frees_one : (o : Reading) (n : List ℕ) (r : ℕ) → marks_of (without_tomb o n (Some r)) ≡ without_grave (r ∷ n) (marks_of o)
  -- each line keeps what the store shows: a verb with a note, one without, the undoing of a note, a commit
  pub does : (notes : List (Top (readings t g).C (readings t g).N)) (o now : Reading) (r : RunStock) (n : Top (readings t g).C (readings t g).N) (verb : Verb) → ShowsStock t g notes o r → n.note.undoes ≡ noted verb (slot o n.note.name).thing
      → (l : IsLeft t n.transaction n.note.name verb o now) → NamesRoots now → CountsRows o now → ShowsStock t g (n ∷ notes) now (did t n.transaction n.lsn l.root n.note.name verb (objects o) r)
  pub looks : (by root : ℕ) (name : List ℕ) (verb : Verb) (m : Marks) (old : Option Object) → LeavesPeaks verb → BothThere old (get m.live name) → (on t verb old).1 ≡ old
      → ((o : Object) → old ≡ Some o → IsLow o (peak_of (get m.live name))) → len m.live + len m.graves ≤ m.rows → marks_after t by root name verb old m ≡ m
  pub undoes : (later : List (Top (readings t g).C (readings t g).N)) (n : Top (readings t g).C (readings t g).N) (rest : List (Top (readings t g).C (readings t g).N)) (cs : List Before) (th : Option Thing) (o now : Reading) (r : RunStock) → ShowsStock t g (later ++ n ∷ rest) o r
      → back t n.note.undoes cs (slot o n.note.name) ≡ Some th → Leaves n.note.name th (left_buried (raises n.note.undoes) (slot o n.note.name).buried) o now → NamesRoots now → now.peak ≡ o.peak
      → ShowsStock t g (later ++ rest) now (less_one (top_steps t g later) (top_step t g n) (top_steps t g rest) r)
  pub commits : (transaction : ℕ) (notes : List (Top (readings t g).C (readings t g).N)) (o now : Reading) (r : RunStock) → ShowsStock t g notes o r → FreesTombs transaction o now
      → ShowsStock t g (notes_not_of transaction notes) now (committed transaction r)
  -- an abort or a rollback is the undoing of its entries one by one
  pub aborts : (f : Choice) (r after : RunStock) → UndoesEach f r after → after ≡ backed f r
  -- whichever entries are undone, stock and reserve are the run's; and the reserve is free
  pub shows : (first : Objects) (bound : ℕ) (held : ℕ → (readings t g).W) (k : Tally (readings t g).C (readings t g).N) (x : (readings t g).X) (h : List (Entry (readings t g).V)) (run : Running (readings t g) first bound held k x h) (r : RunStock)
      → (o : Reading) → settled (readings t g) k.opened x ≡ Some o → ShowsStock t g k.notes o r → (f : Choice) → IsUpward f → IsOf k.live f → ShowsUndone t g first h run.placed o r f
  pub reserve : (first : Objects) (bound : ℕ) (held : ℕ → (readings t g).W) (k : Tally (readings t g).C (readings t g).N) (x : (readings t g).X) (h : List (Entry (readings t g).V)) (run : Running (readings t g) first bound held k x h) (r : RunStock)
      → (o : Reading) → settled (readings t g) k.opened x ≡ Some o → ShowsStock t g k.notes o r → reserved_in r.steps ≤ (readings t g).free o
  -- images: what a crash leaves at a moment, and at a later one; and where no transaction is live
  pub rises : (first r : RunStock) → Leads t first r → AreAtMost (settled_marks first) (settled_marks r)
  pub image : (first r : RunStock) → Leads t first r → (n : List ℕ) (w : Mark) → get (settled_marks first).live n ≡ Some w → (v : Mark) × Stands r.marks n v × (v.root ≡ w.root) × (w.peak ≤ v.peak)
  -- whichever steps are undone, each object stood there before, as an object or a tombstone: so also with a commit that failed
  pub stood : (ss : List Step) (m : Marks) (n : List ℕ) (w : Mark) → get (undone_all ss m).live n ≡ Some w → Stands m n w
  pub done : (r : RunStock) → r.steps ≡ [] → settled_marks r ≡ r.marks
  -- what recovery finds in an image of now has the settled marks
  pub crash : (k : Tally (readings t g).C (readings t g).N) (x : (readings t g).X) (r : RunStock) (o : Reading) → settled (readings t g) k.opened x ≡ Some o → ShowsStock t g k.notes o r
      → (q : Reading) → stands_at (readings t g) k x ≡ Some q → stock_of q ≡ stock_with (objects q) (settled_marks r)
  -- and the freeing of a committed transaction's tombstones changes neither objects nor peaks of it
  pub freeing : (u : ℕ) (ss : List Step) (m : Marks) → Spares u ss m → undone_all ss (freed u m) ≡ freed u (undone_all ss m)
  -- what the moments' laws ask: marks where objects are, a free root for a tombstone, and steps of others apart
  pub both : (notes : List (Top (readings t g).C (readings t g).N)) (o : Reading) (r : RunStock) → ShowsStock t g notes o r → (n : List ℕ) → BothThere (get (objects o) n) (get r.marks.live n)
  pub free : (notes : List (Top (readings t g).C (readings t g).N)) (o : Reading) (r : RunStock) → ShowsStock t g notes o r → (verb : Verb) (n : List ℕ) → IsRootFree (slot o n).thing (slot o n).buried → FreeRoot verb n (get r.marks.live n) r.marks
  pub apart : (o : Reading) (n : List ℕ) (verb : Verb) (w : Option Mark) → is_ok (on t verb (plain (slot o n).thing)).0 ≡ true → (new : Step) → new.name ≡ n → new.kind ≡ kind_by verb (plain (slot o n).thing) w → (s : Step) (held : List (Touch Resource))
      → (is_idle s.kind ≡ false → any_touch (writes covers) held (record { name = s.name; part = KindPart }) ≡ true)
      → ((c : Cell) → any_touch (writes covers) held c ≡ true → (any_touch (reads covers) (touches (objects o) (On n verb)) c || any_touch (writes covers) (touches (objects o) (On n verb)) c) ≡ false) → ApartSteps new s
  pub later : (ls rs : List Step) (s : Step) → AreApart (ls ++ s ∷ rs) → Each (λ u. u.transaction ≡ s.transaction → ⊥) ls → Each (ApartSteps s) ls
  -- and steps stay apart: with a new one, less one, and chosen ones
  pub apart_more : (new : Step) (ss : List Step) → Each (λ s. (new.transaction ≡ s.transaction → ⊥) → ApartSteps new s) ss → AreApart ss → AreApart (new ∷ ss)
  pub apart_less : (ls rs : List Step) (s : Step) → AreApart (ls ++ s ∷ rs) → AreApart (ls ++ rs)
  pub apart_chosen : (f : Choice) (ss : List Step) → AreApart ss → AreApart (chosen f ss)
  -- a sum over a map made of a list without equal keys is that over the list
  pub sum_things : (f : List ℕ × Thing → ℕ) (es : List (List ℕ × Thing)) → AreDistinct es → sum_by f (entries (from_entries {R = slice_cmp nat_cmp} es)) ≡ sum_by f es
  pub sum_tombs : (f : List ℕ × Tomb → ℕ) (es : List (List ℕ × Tomb)) → AreDistinct es → sum_by f (entries (from_entries {R = slice_cmp nat_cmp} es)) ≡ sum_by f es
  -- the stock of a reading is that of its things and tombstones
  pub entries : (o : Reading) → stock_of o ≡ record { holdings = map thing_holding (entries o.things) ++ map tomb_holding (entries o.tombs); rows = o.peak }

-- over pages that are the readings themselves
abbrev pub AllStockLaws : Type 0
AllStockLaws = (t : Operations) → StockLaws t bare_ground
