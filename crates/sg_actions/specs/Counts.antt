-- What each call of a space over an engine keeps, and a record that it may append.
use Rattle.std.specs.Prelude.{◌≡◌, ℕ, ◌+◌, ◌≤◌, true, List, Some, Result, IfErr, OnOk, OnErr}
use Rattle.sg_base.specs.Ends.{HasRisen}
use Rattle.sg_disk.specs.Accounts.{Accounts}
use Rattle.sg_ops.specs.Table.{Table}
use Rattle.sg_recovery.specs.Formed.{IsLog}
use Rattle.sg_recovery.specs.Log.{Top}
use Rattle.sg_record.specs.Changes.{Change as Changing}
use Rattle.sg_space.specs.declared.space.SpaceFault.{SpaceFault}
use Rattle.sg_space.specs.declared.space.SpaceFault.TheVariants.{Disk, LogEnd}
use Rattle.sg_actions.specs.Engine.{EngineView, EngineSeen, IsNearEnd, Moments}
use Rattle.sg_actions.specs.Images.{Recovering}
use Rattle.sg_actions.specs.Rows.{last_in}
use Rattle.sg_actions.specs.Steps.{Step, stepped}
use Rattle.sg_actions.specs.declared.rows.Row.{Row}

abbrev pub Note : Type 0
Note = Top Changing (List ℕ)

-- On any engine: no call makes the count of faults or the log's end less, none fails without a cause, and after a failure it is told no more
pub record ActsCounts {T : Type 0} (e e' : EngineSeen) (breaks breaks' : ℕ) (result : Result T SpaceFault) : Type 0 where
  pub told : e'.Told → e.Told
  pub tells : OnOk result (e.Told → e'.Told)
  pub later : e.faults + breaks ≤ e'.faults + breaks'
  pub quiet : OnOk result (e'.faults + breaks' ≡ e.faults + breaks)
  pub disk : IfErr result (λ f. f ≡ Disk → HasRisen (e.faults + breaks) (e'.faults + breaks'))
  pub accounts : Accounts (λ f. f ≡ Disk) e.Told e.disk e'.disk e.gate e'.gate result
  -- it is near at the end of the call: an earlier record of it may have come near
  pub log_end : IfErr result (λ f. f ≡ LogEnd → IsNearEnd e')
  pub tail : e.tail ≤ e'.tail
  pub silent : OnErr result (e'.Told → ⊥)
  pub stops : e.failed ≡ true → (e'.failed ≡ true) × (e'.disk ≡ e.disk)

-- A TRANSACTION'S RECORD MAY BE APPENDED behind its last one, also where the call fails: the log is formed with it, and each image of the call has a
-- front of the log with it. It is, where the engine still tells
pub record MayAppend (recovers : Recovering) (t : Table) (e e' : EngineView) (rows : List Row) (txn : ℕ) (x : ℕ → Step) : Type 0 where
  pub lsn : ℕ
  pub last : ℕ
  pub was : last_in rows txn ≡ Some last
  pub above : e.tail ≤ lsn
  pub formed : IsLog e.base (stepped e.steps lsn (x last))
  pub moments : Moments recovers t e e' (stepped e.steps lsn (x last))
  pub gone : e'.Told → e'.steps ≡ stepped e.steps lsn (x last)
