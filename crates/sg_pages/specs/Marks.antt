-- A log whose last record is a checkpoint.
use Rattle.std.specs.Prelude.{◌≡◌, ℕ, List, [], ◌∷◌, ◌++◌}
use Rattle.sg_disk.specs.Disk.{Image, View}
use Rattle.sg_log.specs.Frames.{Numbered, LOG_END}
use Rattle.sg_log.specs.Held.{Tail}
use Rattle.sg_record.specs.Records.Says.{Checkpoint}
use Rattle.sg_record.specs.Shown.{by}
use Rattle.sg_engine.specs.Engine.{log_area}
use Rattle.sg_phys_laws.specs.Logged.{at_number}
use Rattle.sg_phys_laws.specs.Reading.{durable_in, waiting_in, frames_read}
use Rattle.sg_phys_laws.specs.Recovers.{super_in}

-- the last of these records is a checkpoint with this number, which has redo begin at this estimate
pub record EndsWith (ns : List Numbered) (lsn estimate : ℕ) : Type 0 where
  pub before : List Numbered
  pub live : List ℕ
  pub all : ns ≡ before ++ at_number lsn (by 0 0 (Checkpoint estimate live)) ∷ []

-- THE LAST RECORD OF A LOG, durable or not, is one
abbrev pub LogEnds : View → Tail → (lsn estimate : ℕ) → Type 0
LogEnds v log lsn estimate = ∥ EndsWith (durable_in v log ++ waiting_in log) lsn estimate ∥₁

-- the last of these records is a checkpoint with these rows of transactions
pub record EndsNaming (ns : List Numbered) (live : List ℕ) : Type 0 where
  pub before : List Numbered
  pub lsn : ℕ
  pub estimate : ℕ
  pub all : ns ≡ before ++ at_number lsn (by 0 0 (Checkpoint estimate live)) ∷ []

-- THE LAST RECORD OF A LOG, durable or not, is one with these rows
abbrev pub LogNames : View → Tail → (live : List ℕ) → Type 0
LogNames v log live = ∥ EndsNaming (durable_in v log ++ waiting_in log) live ∥₁

-- THE LAST RECORD OF AN IMAGE'S LOG is one, as its bytes have it
abbrev pub ImageEnds : Image → (lsn estimate : ℕ) → Type 0
ImageEnds c lsn estimate = ∥ EndsWith (frames_read LOG_END (c (log_area (super_in c))) (super_in c).base 0) lsn estimate ∥₁

-- it is one, whatever its number and its estimate
abbrev pub EndsWithCheckpoint : Image → Type 0
EndsWithCheckpoint c = (lsn : ℕ) × (estimate : ℕ) × ImageEnds c lsn estimate
