-- What the calls of transactions do.
use Rattle.std.specs.Prelude.{◌≡◌, ◌≢◌, ℕ, ◌+◌, ◌<◌, ◌≤◌, Bool, true, List, length}
use Rattle.sg_alloc.specs.Flags.{free_of}
use Rattle.sg_alloc.specs.declared.maps.Maps.{Maps}
use Rattle.sg_base.specs.declared.numbers.TxnId.{TxnId}
use Rattle.sg_ops.specs.Laws.{IsLawful}
use Rattle.sg_ops.specs.Table.{Table}
use Rattle.sg_record.specs.Records.Says.{Begin, TopEnd}
use Rattle.sg_record.specs.Shown.{by}
use Rattle.sg_action.specs.States.{State}
use Rattle.sg_recovery.specs.Log.{tally, is_in}
use Rattle.sg_recovery.specs.Formed.{IsLog}
use Rattle.sg_actions.specs.Acting.{IsChained}
use Rattle.sg_actions.specs.Engine.{EngineView, EngineSeen, Moments}
use Rattle.sg_actions.specs.Led.{Appended}
use Rattle.sg_actions.specs.Images.{Recovering}
use Rattle.sg_actions.specs.Rows.{HasRow, placed, rows_after, at_rest}
use Rattle.sg_actions.specs.Steps.{Step, Steps, stepped, ended}
use Rattle.sg_actions.specs.Taken.{is_set, is_there}
use Rattle.sg_actions.specs.View.{IsKept, HasFreedNone}
use Rattle.sg_actions.specs.declared.rows.Actor.{Actor}
use Rattle.sg_actions.specs.declared.rows.Row.{Row}

-- A STEP MAY BE APPENDED, also where the call fails: its number is the tail or above, the log is formed with it, and each image of the call
-- has a front of the log with it, or of the log
pub record Appends (recovers : Recovering) (t : Table) (e e' : EngineView) (x : Step) : Type 0 where
  pub above : e.tail ≤ e'.tried
  pub formed : IsLog e.base (stepped e.steps e'.tried x)
  pub moments : Moments recovers t e e' (stepped e.steps e'.tried x)
  -- it is, where the engine still tells
  pub gone : e'.Told → e'.steps ≡ stepped e.steps e'.tried x

-- no action is open, and the system acts
pub record IsAtRest (rs : Steps) (unfreed : Maps) (actor : Actor) : Type 0 where
  pub idle : ended rs ≡ rs
  pub system : actor.txn.0 ≡ 0
  pub freed : HasFreedNone unfreed

-- no action is open, and there is a vacant row
pub record IsRoomy (rs : Steps) (unfreed : Maps) (rows : List Row) (actor : Actor) : Type 0 where
  pub rest : IsAtRest rs unfreed actor
  pub vacant : HasRow rows 0

abbrev pub CanBegin : EngineSeen → Maps → List Row → Actor → Type 0
CanBegin e unfreed rows actor = e.Told → IsRoomy e.steps unfreed rows actor

-- a transaction has begun, whose number is that of its record, and it has a row
pub record Begun (t : Table) (limits : State → ℕ → ℕ) (e e' : EngineView) (maps : Maps) (rows rows' : List Row) (actor : Actor) (txn : TxnId) : Type 0 where
  -- on any engine
  pub above : e.tail ≤ txn.0
  pub below : txn.0 < e'.tail
  pub told : e.Told → e'.Told
  pub logged : e.Told → Appended e e' (by txn.0 0 Begin) txn.0
  pub rows_are : rows' ≡ placed rows 0 (record { txn = txn; last = txn.0 })
  pub kept : e.Told → IsKept t limits e maps rows actor → IsKept t limits e' maps rows' actor

-- no action is open, and the transaction goes on, or it's the system
pub record IsActable (rs : Steps) (unfreed : Maps) (rows : List Row) (actor : Actor) (txn : ℕ) : Type 0 where
  pub rest : IsAtRest rs unfreed actor
  pub row : txn ≢ 0 → HasRow rows txn × (is_in txn (tally rs).live ≡ true)

abbrev pub CanAct : EngineSeen → Maps → List Row → Actor → ℕ → Type 0
CanAct e unfreed rows actor txn = e.Told → IsActable e.steps unfreed rows actor txn

-- it acts
pub record NowActs (t : Table) (limits : State → ℕ → ℕ) (e : EngineView) (maps : Maps) (rows : List Row) (actor actor' : Actor) (txn : ℕ) : Type 0 where
  pub is : e.Told → actor'.txn.0 ≡ txn
  pub chain : e.Told → IsChained e.base e.steps e.tail rows actor → IsChained e.base e.steps e.tail rows actor'
  pub kept : e.Told → IsKept t limits e maps rows actor → IsKept t limits e maps rows actor'

-- what was freed is no longer taken, and nothing is freed
pub record AreSettled (taken unfreed taken' unfreed' : List Bool) : Type 0 where
  pub same : (n : ℕ) → is_there taken' unfreed' n ≡ is_there taken unfreed n
  pub there : (n : ℕ) → is_set taken' n ≡ is_there taken unfreed n
  pub none : free_of unfreed' ≡ 0
  pub free : free_of taken' ≡ free_of taken + free_of unfreed
  pub long : length taken' ≡ length taken
  pub long_un : length unfreed' ≡ length unfreed

-- the transaction acts, or the system
abbrev pub CanEnd : EngineSeen → Actor → ℕ → Type 0
CanEnd e actor txn = e.Told → actor.txn.0 ≡ txn

-- AN ACTION HAS ENDED: its end is appended, with the note and the record before the action; no action is open, what it freed is no longer
-- taken, and the space shows what it showed
pub record ActionEnded (t : Table) (limits : State → ℕ → ℕ) (e e' : EngineView) (maps maps' unfreed unfreed' : Maps) (rows rows' : List Row) (actor actor' : Actor) (note : List ℕ) : Type 0 where
  pub lsn : ℕ
  pub told : e.Told → e'.Told
  pub logged : e.Told → Appended e e' (by actor.txn.0 actor.last (TopEnd actor.before note)) lsn
  pub rest : actor' ≡ at_rest
  pub rows_are : rows' ≡ rows_after rows actor.txn lsn
  pub pages : AreSettled maps.pages unfreed.pages maps'.pages unfreed'.pages
  pub bands : AreSettled maps.bands unfreed.bands maps'.bands unfreed'.bands
  pub kept : IsLawful t → e.Told → IsKept t limits e maps rows actor → IsKept t limits e' maps' rows' actor'
