-- Which registered operations an opening needs of a log.
use Rattle.std.specs.Prelude.{◌≡◌, ◌⊎◌, ◌≤◌, ℕ, max, Bool, true, false, ◌==◌, ◌||◌, nat_le, if◌then◌else◌, List, [], ◌∷◌, ◌++◌}
use Rattle.sg_record.specs.Changes.{Change}
use Rattle.sg_record.specs.Changes.Change.{Page, SegWrite, SegOp}
use Rattle.sg_record.specs.Records.{Says}
use Rattle.sg_record.specs.Records.Says.{Begin as SaysBegin, Changed as SaysChanged, TopEnd as SaysTopEnd, PhysComp as SaysPhysComp, TopVoid as SaysTopVoid, CompEnd as SaysCompEnd, Save as SaysSave, Commit as SaysCommit, End as SaysEnd, Checkpoint as SaysCheckpoint}
use Rattle.sg_recovery.specs.Log.{Open, tally, is_in}
use Rattle.sg_recovery.specs.Laws.{Each}
use Rattle.sg_log.specs.Frames.{Numbered}
use Rattle.sg_analysis.specs.Sights.{steps_of, last_checkpoint}
use Rattle.sg_analysis.specs.Analysis.{estimate_or}

-- an operation on the bytes of a cell, or one on a range of a band
pub data Sort : Type 0 where
  OnItem : Sort
  OnRange : Sort

-- a registered operation
pub record Code : Type 0 where
  pub sort : Sort
  pub code : ℕ

-- those that a change names: the operations 6 and 7 of a page are a registered one and its undo
abbrev pub codes_in : Change → List Code
codes_in (Page c) = if c.operation == 6 || c.operation == 7 then record { sort = OnItem; code = c.code } ∷ [] else []
codes_in (SegWrite c) = []
codes_in (SegOp c) = record { sort = OnRange; code = c.code } ∷ []

abbrev pub codes_said : Says → List Code
codes_said SaysBegin = []
codes_said (SaysChanged change) = codes_in change
codes_said (SaysTopEnd undo_next note) = []
codes_said (SaysPhysComp undo_next change) = codes_in change
codes_said (SaysTopVoid undo_next) = []
codes_said (SaysCompEnd undo_next) = []
codes_said (SaysSave mark) = []
codes_said SaysCommit = []
codes_said SaysEnd = []
codes_said (SaysCheckpoint estimate live) = []

-- history is repeated from here on: the later of the number of the log's first byte and of what its last checkpoint estimates
abbrev pub redo_point : (base : ℕ) → List Numbered → ℕ
redo_point base ns = max base (estimate_or base (last_checkpoint ns))

-- one of these open changes is the record with this number
abbrev pub is_open_at : ℕ → List (Open Change) → Bool
is_open_at lsn [] = false
is_open_at lsn (d ∷ ds) = d.lsn == lsn || is_open_at lsn ds

-- A record's operations are needed: where history is repeated, where its transaction goes on and will be undone, and where it is an
-- open change, which the system may have before the point from which history is repeated.
abbrev pub is_needed : (point : ℕ) → (live : List ℕ) → (opened : List (Open Change)) → Numbered → Bool
is_needed point live opened n = nat_le point n.lsn || (is_in n.is.transaction live || is_open_at n.lsn opened)

abbrev pub codes_needed : (point : ℕ) → (live : List ℕ) → (opened : List (Open Change)) → List Numbered → List Code
codes_needed point live opened [] = []
codes_needed point live opened (n ∷ ns) = (if is_needed point live opened n then codes_said n.is.says else []) ++ codes_needed point live opened ns

-- the operations that an opening needs of a log whose first byte has the number base
abbrev pub codes : (base : ℕ) → List Numbered → List Code
codes base ns = codes_needed (redo_point base ns) (tally (steps_of ns)).live (tally (steps_of ns)).opened ns

-- it is among these
abbrev pub IsNamed : Code → List Code → Type 0
IsNamed code [] = ⊥
IsNamed code (other ∷ others) = (other ≡ code) ⊎ IsNamed code others

-- each of the first is among the others
abbrev pub AreNamed : List Code → List Code → Type 0
AreNamed some others = Each (λ code. IsNamed code others) some

-- the operations of a record that history is repeated from, and of one of a transaction that goes on, are needed
abbrev pub EachIsNeeded : Type 0
EachIsNeeded = (base : ℕ) (ns : List Numbered) → Each (λ n. (redo_point base ns ≤ n.lsn) ⊎ (is_in n.is.transaction (tally (steps_of ns)).live ≡ true) → AreNamed (codes_said n.is.says) (codes base ns)) ns

-- and so are those of each open change, also where it stands before that point
abbrev pub OpenOnesAreNeeded : Type 0
OpenOnesAreNeeded = (base : ℕ) (ns : List Numbered) → Each (λ d. AreNamed (codes_in d.change) (codes base ns)) (tally (steps_of ns)).opened
