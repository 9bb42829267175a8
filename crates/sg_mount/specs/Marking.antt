-- A CHECKPOINT AT WHICH REDO BEGINS.
use Rattle.std.specs.Prelude.{ℕ, ◌≤◌}
use Rattle.sg_disk.specs.Disk as disk
use Rattle.sg_disk.specs.Disk.{Image}
use Rattle.sg_checkpoints.specs.Checkpoints.{StillMarked}

-- A LOG ENDS WITH A CHECKPOINT THAT HAS REDO BEGIN AT ITSELF, appended since it had this tail; and so does each image that a crash leaves now
pub record MarksItself (tail : ℕ) (marked : (lsn estimate : ℕ) → Type 0) (ends_at : Image → (lsn estimate : ℕ) → Type 0) (now : disk.State) : Type 0 where
  pub lsn : ℕ
  pub appended : tail ≤ lsn
  pub still : StillMarked marked ends_at now lsn lsn
