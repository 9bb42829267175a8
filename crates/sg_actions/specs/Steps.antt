-- The steps of a log of page records, and what the pages and bands are behind them.
use Rattle.std.specs.Prelude.{ℕ, ◌==◌, if◌then◌else◌, List, [], ◌∷◌, Option, Some, None, map}
use Rattle.sg_ops.specs.Table.{Table}
use Rattle.sg_record.specs.Changes.{Change as Changing}
use Rattle.sg_record.specs.Records.{Record, Says}
use Rattle.sg_record.specs.Records.Says.{Begin as SaysBegin, Changed as SaysChanged, TopEnd as SaysTopEnd, PhysComp as SaysPhysComp, TopVoid as SaysTopVoid, CompEnd as SaysCompEnd, Save as SaysSave, Commit as SaysCommit, End as SaysEnd, Checkpoint as SaysCheckpoint}
use Rattle.sg_recovery.specs.Log as recovery
use Rattle.sg_recovery.specs.Log.Record.{Begin, Change, TopEnd, PhysComp, TopVoid, CompEnd, Save, Commit, End}
use Rattle.sg_action.specs.States.{State, Change as Changed, apply}
use Rattle.sg_actions.specs.Changes.{meaning}

-- a step of a transaction or of the system, with the change or the bytes of the note that it holds
abbrev pub Step : Type 0
Step = recovery.Record Changing (List ℕ)

-- the steps so far, the newest first
abbrev pub Steps : Type 0
Steps = List (recovery.Numbered Changing (List ℕ))

abbrev pub step_by : (transaction previous : ℕ) → Says → Option Step
step_by transaction previous SaysBegin = Some (Begin transaction previous)
step_by transaction previous (SaysChanged change) = Some (Change transaction previous change)
step_by transaction previous (SaysTopEnd undo_next note) = Some (TopEnd transaction previous undo_next note)
step_by transaction previous (SaysPhysComp undo_next change) = Some (PhysComp transaction previous undo_next change)
step_by transaction previous (SaysTopVoid undo_next) = Some (TopVoid transaction previous undo_next)
step_by transaction previous (SaysCompEnd undo_next) = Some (CompEnd transaction previous undo_next)
step_by transaction previous (SaysSave mark) = Some (Save transaction previous mark)
step_by transaction previous SaysCommit = Some (Commit transaction previous)
step_by transaction previous SaysEnd = Some (End transaction previous)
step_by transaction previous (SaysCheckpoint estimate live) = None

-- the step that a record is, if it is one of a transaction or of the system
abbrev pub step_of : Record → Option Step
step_of r = step_by r.transaction r.previous r.says

-- the steps with one more, of this number
abbrev pub stepped : Steps → ℕ → Step → Steps
stepped rs lsn x = record { lsn = lsn; is = x } ∷ rs

abbrev pub with_step : Steps → ℕ → Option Step → Steps
with_step rs lsn None = rs
with_step rs lsn (Some x) = stepped rs lsn x

-- redo of a step
abbrev pub redo : Table → Step → State → State
redo t (Begin u p) x = x
redo t (Change u p c) x = apply t x (meaning c)
redo t (TopEnd u p w n) x = x
redo t (PhysComp u p w c) x = apply t x (meaning c)
redo t (TopVoid u p w) x = x
redo t (CompEnd u p w) x = x
redo t (Save u p m) x = x
redo t (Commit u p) x = x
redo t (End u p) x = x

-- HISTORY REPEATED: what the pages and bands are behind these steps
abbrev pub repeated : Table → State → Steps → State
repeated t x [] = x
repeated t x (r ∷ rs) = redo t r.is (repeated t x rs)

-- a change goes on the open action; any other step ends it, or takes it off
abbrev pub with_change : Step → List Changing → List Changing
with_change (Begin u p) more = []
with_change (Change u p c) more = c ∷ more
with_change (TopEnd u p w n) more = []
with_change (PhysComp u p w c) more = []
with_change (TopVoid u p w) more = []
with_change (CompEnd u p w) more = []
with_change (Save u p m) more = []
with_change (Commit u p) more = []
with_change (End u p) more = []

-- the changes of the open action, the last one first
abbrev pub logged : Steps → List Changing
logged [] = []
logged (r ∷ rs) = with_change r.is (logged rs)

abbrev pub opened : Steps → List Changed
opened rs = map meaning (logged rs)

abbrev pub but_change : Step → (here before : Steps) → Steps
but_change (Begin u p) here before = here
but_change (Change u p c) here before = before
but_change (TopEnd u p w n) here before = here
but_change (PhysComp u p w c) here before = here
but_change (TopVoid u p w) here before = here
but_change (CompEnd u p w) here before = here
but_change (Save u p m) here before = here
but_change (Commit u p) here before = here
but_change (End u p) here before = here

-- the steps before the open action
abbrev pub ended : Steps → Steps
ended [] = []
ended (r ∷ rs) = but_change r.is (r ∷ rs) (ended rs)

-- what the pages and bands were when the open action began
abbrev pub begin_of : Table → State → Steps → State
begin_of t x rs = repeated t x (ended rs)

-- the step with this number
abbrev pub step_at : Steps → ℕ → Option Step
step_at [] at = None
step_at (r ∷ rs) at = if r.lsn == at then Some r.is else step_at rs at
