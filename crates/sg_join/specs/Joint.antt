-- The setting of a log, and the step of which its verbs are steps.
use Rattle.std.specs.Prelude.{◌≡◌, Bool, List}
use Rattle.sg_serial.specs.Locks.{Touch}
use Rattle.sg_recovery.specs.Setting.{Setting}

-- A log's verb is an operation of the run, done on the objects with one outcome: what the log's theory steps by is what the
-- run's step leaves
pub record Joint : Type 1 where
  pub setting : Setting
  pub Op : Type 0
  pub Out : Type 0
  pub Cell : Type 0
  pub Resource : Type 0
  pub step : setting.S → Op → Out × setting.S
  pub touches : setting.S → Op → List (Touch Resource)
  pub covers : Resource → Cell → Bool
  pub op : setting.V → Op
  pub steps : (m : setting.S) (v : setting.V) → setting.step m v ≡ (step m (op v)).1
