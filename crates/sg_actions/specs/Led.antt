-- What a call of an engine does, by the pages and bands that its steps lead from.
use Rattle.std.specs.Prelude.{◌≡◌, ℕ, ◌+◌, ◌<◌, ◌≤◌, Result, IfOk, IfErr, OnOk}
use Rattle.sg_ops.specs.Table.{Table}
use Rattle.sg_record.specs.Records.{Record}
use Rattle.sg_space.specs.declared.space.SpaceFault.{SpaceFault}
use Rattle.sg_space.specs.declared.space.SpaceFault.TheVariants.{Disk}
use Rattle.sg_actions.specs.Engine.{EngineView, EngineCounts, Moments, seen}
use Rattle.sg_actions.specs.Images.{Grows, Recovering}
use Rattle.sg_actions.specs.Steps.{step_of, with_step}

-- THE RECORD IS APPENDED and its change made, in an engine that tells
pub record Appended (old new : EngineView) (r : Record) (lsn : ℕ) : Type 0 where
  pub number : old.tail ≤ lsn
  pub base : new.base ≡ old.base
  pub first : new.first ≡ old.first
  pub steps : new.steps ≡ with_step old.steps lsn (step_of r)
  pub tail : lsn < new.tail
  pub durable : Grows old.durable new.durable

-- the record is appended. What is said of the log is said where the engine tells, but for the number
pub record HasLogged (old new : EngineView) (r : Record) (lsn : ℕ) : Type 0 where
  pub told : old.Told → new.Told
  pub above : old.tail ≤ lsn
  pub below : lsn < new.tail
  pub tried : lsn ≡ new.tried
  pub logged : old.Told → Appended old new r lsn

-- a call that appends a record
pub record LogCall (recovers : Recovering) (t : Table) (old new : EngineView) (r : Record) (result : Result ℕ SpaceFault) : Type 0 where
  pub counts : EngineCounts (seen old) (seen new) result
  pub few : new.records ≤ old.records + 1
  pub did : IfOk result (HasLogged old new r)
  -- also of a call that fails
  pub above : old.Told → old.tail ≤ new.tried
  pub moments : old.Told → Moments recovers t old new (with_step old.steps new.tried (step_of r))

-- nothing is appended or changed, in an engine that tells
pub record Stayed (old new : EngineView) : Type 0 where
  pub base : new.base ≡ old.base
  pub first : new.first ≡ old.first
  pub steps : new.steps ≡ old.steps
  pub tail : old.tail ≤ new.tail
  pub durable : Grows old.durable new.durable

pub record HasStayed (old new : EngineView) : Type 0 where
  pub told : old.Told → new.Told
  pub stays : old.Told → Stayed old new

-- a call that appends none
pub record LookCall {T : Type 0} (recovers : Recovering) (t : Table) (old new : EngineView) (result : Result T SpaceFault) : Type 0 where
  pub counts : EngineCounts (seen old) (seen new) result
  pub only_disk : IfErr result (λ e. e ≡ Disk)
  pub records : new.records ≡ old.records
  pub stays : OnOk result (HasStayed old new)
  -- also of a call that fails
  pub moments : old.Told → Moments recovers t old new old.steps
