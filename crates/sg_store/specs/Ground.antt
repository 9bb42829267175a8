-- What a store rests on: pages, changes of them, readings of them as objects, notes, and verbs as they were done.
use Rattle.std.specs.Prelude.{◌≡◌, ℕ, ◌≤◌, Bool, true, false, ◌||◌, List, Option, Some}
use Rattle.sg_disk.specs.Disk.{Image}
use Rattle.sg_ops.specs.Table.{Table as Operations}
use Rattle.sg_serial.specs.Machine.{any_touch}
use Rattle.sg_serial.specs.Locks.{Touch, reads, writes}
use Rattle.sg_model.specs.Objects.{Objects}
use Rattle.sg_model.specs.Verb.{Op}
use Rattle.sg_model.specs.Step.{step}
use Rattle.sg_model.specs.Touches.{Cell, Resource, covers, touches}
use Rattle.sg_recovery.specs.Setting.{Setting}
use Rattle.sg_recovery.specs.Log.{Numbered, Open}
use Rattle.sg_recovery.specs.Laws.{Laws}
use Rattle.sg_room.specs.Bounds.{Sizes}
use Rattle.sg_room.specs.Marks.{Marks, Kind, freed}

-- what an operation needs: free pages and bands, and how many pages it reserves of those
pub record Needs : Type 0 where
  pub pages : ℕ
  pub bands : ℕ
  pub reserve : ℕ

pub record Ground : Type 1 where
  -- what all pages and bands hold, a change of one of them, what is read from them, a note, and a verb as it was done
  pub X : Type 0
  pub C : Type 0
  pub O : Type 0
  pub N : Type 0
  pub V : Type 0
  pub apply : Operations → X → C → X
  pub fits : Operations → X → C → Bool
  pub inverse : C → C
  pub reading : X → Option O
  pub unstep : Operations → O → N → List C → Option O
  pub free : O → ℕ
  -- how many things are buried in it
  pub buried : O → ℕ
  -- a transaction with this number has dropped something that is buried at this place
  pub Buried : O → ℕ → List (Touch Resource) → Type 0
  pub wants : N → Bool
  pub objects : O → Objects
  -- how many pages and bands there are, and how many of the bands hold their map
  pub sizes : Sizes
  -- the root and the peak of each object, what is buried, and the most rows that the catalogue had
  pub marks : O → Marks
  -- the name that a note is of, and what its undoing takes, as far as a stock sees it
  pub named : N → List ℕ
  pub kind : N → Kind
  -- the operation of a verb, and what it touched
  pub op : V → Op
  pub touched : V → List (Touch Resource)
  pub Below : O → O → Type 0
  pub After : Operations → V → O → O → Type 0
  pub Freed : List (Touch Resource) → O → O → Type 0
  pub can_undo : O → N → List C → List (Touch Resource) → Bool
  pub needs : Operations → O → Op → Needs
  -- what the bytes of a note say
  pub note : List ℕ → N
  -- The second pages are the first with what a note's action found there written back by these open changes, where the note asks for
  -- that. Where it doesn't, no change is open
  pub PutsBack : Operations → N → List C → List (Open C) → X → X → Type 0
  -- the first pages can't be told from the second ones, those at the begin of an action, by who reads what these reach
  pub Alike : X → X → Type 0
  -- The log of an image is these records, its superblock is in range, its codes are registered and it is sound; and with
  -- history repeated from the redo point on its pages and bands hold this
  pub Recovers : Operations → Image → List (Numbered C N) → X → Type 0

-- some touches write a cell, and some cover it
abbrev pub are_written : List (Touch Resource) → Cell → Bool
are_written ts c = any_touch (writes covers) ts c

abbrev pub are_covered : List (Touch Resource) → Cell → Bool
are_covered ts c = any_touch (reads covers) ts c

-- The setting of a log over these. A set of cells is what some touches write
abbrev pub setting : Operations → Ground → Setting
setting t g = record {
  X = g.X;
  C = g.C;
  O = g.O;
  S = Objects;
  N = g.N;
  V = g.V;
  apply = g.apply t;
  fits = g.fits t;
  inverse = g.inverse;
  reading = g.reading;
  unstep = g.unstep t;
  free = g.free;
  wants = g.wants;
  objects = g.objects;
  step = λ s v. (step t s (g.op v)).1;
  Below = g.Below;
  After = g.After t;
  W = List (Touch Resource);
  Freed = g.Freed;
  can_undo = g.can_undo;
  Within = λ a b. (c : Cell) → are_written a c ≡ true → are_written b c ≡ true;
  Clear = λ v held. (c : Cell) → are_written held c ≡ true → (are_covered (g.touched v) c || are_written (g.touched v) c) ≡ false;
  Apart = λ f held. (c : Cell) → are_written held c ≡ true → are_written f c ≡ false;
  Writes = λ v w. (c : Cell) → are_written w c ≡ true → are_written (g.touched v) c ≡ true;
}

-- What holds of the ground with these operations
pub record IsLawful (t : Operations) (g : Ground) : Type 0 where
  pub laws : Laws (setting t g)
  -- a verb as it was done touched what its operation touches where it was done
  pub touches : (v : g.V) (o p : g.O) → g.After t v o p → touches (g.objects o) (g.op v) ≡ g.touched v
  -- an operation that changes nothing in what pages read as is a verb that leaves it as it is
  pub looks : (x : g.X) (o : g.O) (op : Op) → g.reading x ≡ Some o → (step t (g.objects o) op).1 ≡ g.objects o → (v : g.V)
      × (g.op v ≡ op) × g.After t v o o
  -- an operation reserves a page at most, of those that it needs
  pub reserves_one : (o : g.O) (op : Op) → (g.needs t o op).reserve ≤ 1
  pub reserves_needed : (o : g.O) (op : Op) → (g.needs t o op).reserve ≤ (g.needs t o op).pages
  -- where no thing is buried nobody has dropped one
  pub none_buried : (o : g.O) → g.buried o ≡ 0 → (u : ℕ) (f : List (Touch Resource)) → g.Buried o u f → ⊥
  -- and where nothing that a transaction dropped is buried, its commit takes none of the marks of what pages read as
  pub none_freed : (x : g.X) (o : g.O) → g.reading x ≡ Some o → (u : ℕ) → ((f : List (Touch Resource)) → g.Buried o u f → ⊥) → freed u (g.marks o) ≡ g.marks o
  -- pages that can't be told apart from some that read as objects read as these
  pub reads_alike : (x y : g.X) (o : g.O) → g.reading x ≡ Some o → g.Alike y x → g.reading y ≡ Some o
  pub alike_same : (x : g.X) → g.Alike x x
