-- All that is known of an engine: a log of records, and the pages and bands that its records make.
use Rattle.std.specs.Prelude.{◌≡◌, ◌≢◌, ◌⊎◌, ℕ, ◌+◌, ◌<◌, ◌≤◌, ◌^◌, Bool, true, IsSome, List, [], ◌∷◌, length, Option, Some, None, Result, Ok, ◌*◌, IfOk, IfErr, OnOk, OnErr, ⊤}
use Rattle.sg_base.specs.Ends.{HasRisen}
use Rattle.sg_base.specs.Sheet.{Sheet}
use Rattle.sg_disk.specs.Accounts.{Accounts}
use Rattle.sg_disk.specs.Disk as disk
use Rattle.sg_disk.specs.Disk.{Image, Leaves, LeavesOnly}
use Rattle.sg_ops.specs.Steps.{uses_table}
use Rattle.sg_ops.specs.Table.{Table, range_at}
use Rattle.sg_record.specs.Changes.{Change as Changing}
use Rattle.sg_record.specs.Changes.Change.{Page, SegWrite, SegOp}
use Rattle.sg_record.specs.Records.{Record, Says, spelled}
use Rattle.sg_record.specs.Records.Says.{Begin as SaysBegin}
use Rattle.sg_record.specs.Reading.{parse}
use Rattle.sg_base.specs.Page.{stored}
use Rattle.sg_recovery.specs.Formed.{IsLog}
use Rattle.sg_recovery.specs.Log.{Open, tally, is_in}
use Rattle.sg_recovery.specs.Log.Record.{Begin, Change, PhysComp}
use Rattle.sg_action.specs.States.{State, fits}
use Rattle.sg_space.specs.declared.space.SpaceFault.{SpaceFault}
use Rattle.sg_space.specs.declared.space.SpaceFault.TheVariants.{Disk, LogEnd}
use Rattle.sg_actions.specs.Changes.{op_said, meaning}
use Rattle.sg_actions.specs.Images.{Grows, Recovering, IsImageOf}
use Rattle.sg_actions.specs.Steps.{Step, Steps, step_of, step_at, stepped, with_step, repeated}

-- how many pages and bands there are
pub record Extent : Type 0 where
  pub pages : ℕ
  pub bands : ℕ

-- WHAT AN ENGINE SHOWS, whatever its records mean and wherever they lead from
pub record EngineSeen : Type 1 where
  -- the log and the contents are known, and only what can be done is asked of it
  pub Told : Type 0
  -- A call failed. No later call is one of the disk.
  pub failed : Bool
  -- the first that failed was refused for the log's end
  pub full : Bool
  pub disk : disk.View
  -- the number of the log's first byte
  pub base : ℕ
  -- a record changes one of these alone
  pub extent : Extent
  -- the pages and bands now, by what it holds
  pub now : State
  -- the records appended so far, but for those of no transaction, the newest first
  pub steps : Steps
  -- those of them that are durable, whatever comes
  pub durable : Steps
  -- no record from now on has a number below this
  pub tail : ℕ
  -- the number of the byte where what is durable of the log ends. Of one that failed: where it ended before
  pub gate : ℕ
  -- the number of the next record, if it says this
  pub next : Says → ℕ
  -- the number of the record that was appended last, or was to be
  pub tried : ℕ
  -- how often it failed
  pub faults : ℕ
  -- how many records its calls have appended
  pub records : ℕ

-- the same, with the pages and bands before the first of its steps
pub record EngineView : Type 1 where
  pub Told : Type 0
  pub failed : Bool
  pub full : Bool
  pub disk : disk.View
  pub base : ℕ
  pub extent : Extent
  -- the pages and bands before the first of the steps
  pub first : State
  pub now : State
  pub steps : Steps
  pub durable : Steps
  pub tail : ℕ
  pub gate : ℕ
  pub next : Says → ℕ
  pub tried : ℕ
  pub faults : ℕ
  pub records : ℕ

-- what an engine shows, whose steps lead from these pages and bands
abbrev pub led : State → EngineSeen → EngineView
led first s = record {
  Told = s.Told;
  failed = s.failed;
  full = s.full;
  disk = s.disk;
  base = s.base;
  extent = s.extent;
  first = first;
  now = s.now;
  steps = s.steps;
  durable = s.durable;
  tail = s.tail;
  gate = s.gate;
  next = s.next;
  tried = s.tried;
  faults = s.faults;
  records = s.records;
}

-- and the same without them
abbrev pub seen : EngineView → EngineSeen
seen e = record {
  Told = e.Told;
  failed = e.failed;
  full = e.full;
  disk = e.disk;
  base = e.base;
  extent = e.extent;
  now = e.now;
  steps = e.steps;
  durable = e.durable;
  tail = e.tail;
  gate = e.gate;
  next = e.next;
  tried = e.tried;
  faults = e.faults;
  records = e.records;
}

abbrev pub LOG_END : ℕ
LOG_END = 2 ^ 63

-- one more record may pass the end of the log
abbrev pub IsNearEnd : EngineSeen → Type 0
IsNearEnd e = LOG_END < e.tail + 131072

-- what the steps make of the pages and bands before them
abbrev pub now_of : Table → EngineView → State
now_of t e = repeated t e.first e.steps

-- what the change does is said by the table, and not by the change alone
abbrev pub UsesTable : Changing → Type 0
UsesTable (Page c) = uses_table (op_said c) ≡ true
UsesTable (SegWrite c) = ⊥
UsesTable (SegOp c) = c.code ≢ 1

abbrev pub StepUsesTable : Step → Type 0
StepUsesTable (Change u p c) = UsesTable c
StepUsesTable (PhysComp u p w c) = UsesTable c
StepUsesTable _ = ⊥

-- the change that a step makes can be made
abbrev pub Fits : Table → State → Step → Type 0
Fits t x (Change u p c) = fits t x (meaning c) ≡ true
Fits t x (PhysComp u p w c) = fits t x (meaning c) ≡ true
Fits t x _ = ⊤

-- the range operation of a change is registered
abbrev pub KnowsChange : Table → Changing → Type 0
KnowsChange t (Page c) = ⊤
KnowsChange t (SegWrite c) = ⊤
KnowsChange t (SegOp c) = IsSome (range_at t c.code)

-- the last open change of a log that is formed, which is the system's, or one of a transaction that goes on
pub record IsOfOpen (e : EngineSeen) (c : Changing) : Type 0 where
  pub log : IsLog e.base e.steps
  pub change : Open Changing
  pub others : List (Open Changing)
  pub last : (tally e.steps).opened ≡ change ∷ others
  pub previous : ℕ
  pub stands : step_at e.steps change.lsn ≡ Some (Change change.transaction previous c)
  pub goes_on : (change.transaction ≡ 0) ⊎ (is_in change.transaction (tally e.steps).live ≡ true)

-- the range operation of a change that takes one off is that of the last open change, which it does again
abbrev pub KnowsOff : EngineSeen → Changing → Type 0
KnowsOff e (Page c) = ⊤
KnowsOff e (SegWrite c) = ⊤
KnowsOff e (SegOp c) = ∥ IsOfOpen e (SegOp c) ∥₁

-- the range operation of a step is registered, or it is that of an open change
abbrev pub Knows : Table → EngineSeen → Step → Type 0
Knows t e (Change u p c) = KnowsChange t c
Knows t e (PhysComp u p w c) = KnowsOff e c
Knows t e _ = ⊤

-- the change is of a page or a band that there is
abbrev pub IsOn : Extent → Changing → Type 0
IsOn x (Page c) = c.page < x.pages
IsOn x (SegWrite c) = c.band < x.bands
IsOn x (SegOp c) = c.band < x.bands

abbrev pub StepOn : Extent → Step → Type 0
StepOn x (Change u p c) = IsOn x c
StepOn x (PhysComp u p w c) = IsOn x c
StepOn x _ = ⊤

-- so is each of these steps
abbrev pub AllOn : Extent → Steps → Type 0
AllOn x [] = ⊤
AllOn x (r ∷ rs) = StepOn x r.is × AllOn x rs

-- a step may get each number from the log's end on. A begin, whose transaction is its number, gets the next one
abbrev pub MayGet : EngineSeen → Step → ℕ → Type 0
MayGet e (Begin u p) lsn = lsn ≡ e.next SaysBegin
MayGet e _ lsn = ⊤

-- THE LOG IS FORMED with the step, whatever number it gets
abbrev pub IsFormedWith : EngineSeen → Step → Type 0
IsFormedWith e x = (lsn : ℕ) → e.tail ≤ lsn → MayGet e x lsn → IsLog e.base (stepped e.steps lsn x)

-- a step may be appended, the log is formed with it, and where it uses registered operations, this holds of them
pub record IsLoggable (t : Table) (Means : Type 0) (e : EngineSeen) (x : Step) : Type 0 where
  pub there : StepOn e.extent x
  pub fits : Fits t e.now x
  pub known : Knows t e x
  pub formed : ∥ IsFormedWith e x ∥₁
  pub means : StepUsesTable x → Means

abbrev pub IsStepThat : Option Step → (Step → Type 0) → Type 0
IsStepThat None P = ⊥
IsStepThat (Some x) P = P x

-- A RECORD MAY BE APPENDED to an engine that tells: it is a step of a transaction or of the system, and no checkpoint, which has a call of
-- its own
abbrev pub CanLog : Table → (Means : Type 0) → EngineSeen → Record → Type 0
CanLog t Means e r = e.Told → IsStepThat (step_of r) (IsLoggable t Means e)

-- WHAT A CALL KEEPS: the operations that an engine's records are of, and the pages and bands that they lead from
abbrev pub Keeps : (old new : Table → State → Type 0) → Type 0
Keeps old new = (t : Table) (from : State) → old t from → new t from

-- its records are of these operations, wherever they lead from
abbrev pub AreBy : (means : Table → State → Type 0) → Table → Type 0
AreBy means t = ∥ ((from : State) × means t from) ∥₁

-- What each call keeps, on any engine: no call makes the count of faults or the log's end less, and none fails without a cause. It is
-- told no more after a failure, and makes no call of the disk
pub record EngineCounts {T : Type 0} (old new : EngineSeen) (result : Result T SpaceFault) : Type 0 where
  pub told : new.Told → old.Told
  pub tells : OnOk result (old.Told → new.Told)
  pub base : new.base ≡ old.base
  pub extent : new.extent ≡ old.extent
  pub later : old.faults ≤ new.faults
  pub quiet : OnOk result (new.faults ≡ old.faults)
  pub disk : IfErr result (λ e. e ≡ Disk → HasRisen old.faults new.faults)
  pub accounts : Accounts (λ e. e ≡ Disk) old.Told old.disk new.disk old.gate new.gate result
  pub log_end : IfErr result (λ e. e ≡ LogEnd → IsNearEnd old)
  pub tail : old.tail ≤ new.tail
  pub failed : OnErr result (new.failed ≡ true)
  pub stops : old.failed ≡ true → (new.failed ≡ true) × (new.disk ≡ old.disk)
  -- it remembers of the first call that failed whether it was refused for the log's end
  pub first : old.failed ≡ true → new.full ≡ old.full
  pub full : OnOk result (new.full ≡ old.full)
  pub for_disk : IfErr result (λ e. e ≡ Disk → new.full ≡ old.full)
  pub for_end : IfErr result (λ e. e ≡ LogEnd → new.full ≡ true)

-- the number of a record that was appended
pub record IsPlaced (old new : EngineSeen) (lsn : ℕ) : Type 0 where
  pub above : old.tail ≤ lsn
  pub below : lsn < new.tail
  pub tried : lsn ≡ new.tried

-- A CALL THAT APPENDS NO RECORD, on any engine: it isn't refused for the log's end, and that stays where it is
pub record EngineRests {T : Type 0} (old new : EngineSeen) (result : Result T SpaceFault) : Type 0 where
  pub counts : EngineCounts old new result
  pub only_disk : IfErr result (λ e. e ≡ Disk)
  pub records : new.records ≡ old.records
  pub tail : new.tail ≡ old.tail

-- A CALL THAT APPENDS A RECORD, on any engine: the log grows by its bytes, and by the head of a frame at most; where it fails nothing is
-- counted. It is refused for the log's end only where the record would end behind that, and none that is appended does
pub record EngineGrows (old new : EngineSeen) (r : Record) (result : Result ℕ SpaceFault) : Type 0 where
  pub counts : EngineCounts old new result
  pub few : new.records ≤ old.records + 1
  pub counted : OnOk result (new.records ≡ old.records + 1)
  pub same : OnErr result (new.records ≡ old.records)
  pub back : OnErr result (new.tail ≡ old.tail)
  pub grown : new.tail ≤ old.tail + (5 + length (spelled r))
  pub placed : IfOk result (IsPlaced old new)
  pub within : OnOk result (new.tried + length (spelled r) ≤ LOG_END)
  pub past : IfErr result (λ e. e ≡ LogEnd → LOG_END < new.tried + length (spelled r))

-- each image of each moment from the first on has a front of these steps, with all that were durable at first
abbrev pub Moments : Recovering → Table → (old new : EngineView) → Steps → Type 0
Moments recovers t old new log = LeavesOnly old.disk new.disk (IsImageOf recovers t old.first old.durable log)

-- THE RECORD IS APPENDED and its change made, in an engine that tells
pub record Logged (old new : EngineView) (r : Record) (lsn : ℕ) : Type 0 where
  pub steps : new.steps ≡ with_step old.steps lsn (step_of r)
  pub durable : Grows old.durable new.durable

pub record Logs (recovers : Recovering) (t : Table) (old new : EngineView) (r : Record) (result : Result ℕ SpaceFault) : Type 0 where
  pub did : IfOk result (λ lsn. old.Told → Logged old new r lsn)
  -- also of a call that fails
  pub above : old.Told → old.tail ≤ new.tried
  pub moments : old.Told → Moments recovers t old new (with_step old.steps new.tried (step_of r))

-- nothing is appended or changed, in an engine that tells
pub record Stays (old new : EngineView) : Type 0 where
  pub steps : new.steps ≡ old.steps
  pub durable : Grows old.durable new.durable

pub record EngineLooks {T : Type 0} (recovers : Recovering) (t : Table) (old new : EngineView) (result : Result T SpaceFault) : Type 0 where
  pub stays : OnOk result (old.Told → Stays old new)
  -- also of a call that fails
  pub moments : old.Told → Moments recovers t old new old.steps

-- all that is appended is durable
abbrev pub IsForced : EngineSeen → Type 0
IsForced e = e.Told → e.durable ≡ e.steps

-- each image that a crash now leaves has a front of the steps
abbrev pub StandsNow : Recovering → Table → EngineView → Type 0
StandsNow recovers t e = (c : Image) → Leaves e.disk.now c → IsImageOf recovers t e.first e.durable e.steps c

-- the page says something
abbrev pub HasPage : EngineSeen → ℕ → Type 0
HasPage e p = IsSome (e.now.pages p)

-- a look at a page gives what it says now
abbrev pub LookedAt : EngineSeen → ℕ → Sheet → Type 0
LookedAt e p sheet = e.now.pages p ≡ Some sheet

abbrev pub LookedAtBand : EngineSeen → ℕ → List ℕ → Type 0
LookedAtBand e b bytes = e.now.bands b ≡ bytes

-- the log has a record with this number
abbrev pub HasStep : EngineSeen → ℕ → Type 0
HasStep e at = e.Told → IsSome (step_at e.steps at)

-- these bytes are those of a record that is the step with this number
pub record IsStepAt (rs : Steps) (at : ℕ) (bytes : List ℕ) : Type 0 where
  pub what : Record
  pub is : parse bytes ≡ Ok (what, length bytes)
  pub step : step_at rs at ≡ step_of what

abbrev pub ReadsStep : EngineSeen → ℕ → List ℕ → Type 0
ReadsStep e at bytes = e.Told → IsStepAt e.steps at bytes

-- each page has no more cells than it has bytes for
abbrev pub ArePagesFit : State → Type 0
ArePagesFit x = (n : ℕ) (p : Sheet) → x.pages n ≡ Some p → 4 * length p.slots + stored p.slots ≤ 4072
