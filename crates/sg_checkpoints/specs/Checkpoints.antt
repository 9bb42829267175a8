-- Where a checkpoint has redo begin, and a log of which it is the last record.
use Rattle.std.specs.Prelude.{◌≡◌, ◌⊎◌, ℕ, ◌≤◌}
use Rattle.sg_disk.specs.Disk as disk
use Rattle.sg_disk.specs.Disk.{Image, Leaves}

-- A CHECKPOINT with this number ESTIMATES where redo begins: at the oldest change that isn't on the disk, or at its own number where there is
-- none
abbrev pub Estimates : (unwritten : ℕ → Type 0) → (lsn estimate : ℕ) → Type 0
Estimates unwritten lsn estimate = (unwritten estimate × ((x : ℕ) → unwritten x → estimate ≤ x)) ⊎ (((x : ℕ) → unwritten x → ⊥) × (estimate ≡ lsn))

-- the last record of a log is such a checkpoint
pub record Marks (unwritten : ℕ → Type 0) (marked : (lsn estimate : ℕ) → Type 0) (lsn : ℕ) : Type 0 where
  pub estimate : ℕ
  pub last : marked lsn estimate
  pub estimates : Estimates unwritten lsn estimate

-- the last record of a log is the checkpoint with this number and estimate, AND SO IT IS in each image that a crash leaves now
pub record StillMarked (marked : (lsn estimate : ℕ) → Type 0) (ends_at : Image → (lsn estimate : ℕ) → Type 0) (now : disk.State) (lsn estimate : ℕ) : Type 0 where
  pub last : marked lsn estimate
  pub ends : (c : Image) → Leaves now c → ends_at c lsn estimate

-- A CALL THAT APPENDS NOTHING AND FORCES ALL: the last record is the checkpoint that it was, and so it is in each of these images
abbrev pub StaysMarked : (was marked : (lsn estimate : ℕ) → Type 0) → (ends_at : Image → (lsn estimate : ℕ) → Type 0) → (now : disk.State) → Type 0
StaysMarked was marked ends_at now = (lsn estimate : ℕ) → was lsn estimate → StillMarked marked ends_at now lsn estimate

-- A LOG ENDS WITH A CHECKPOINT that was appended since it had this tail, from which on no record had a number then: and so does each image that a
-- crash leaves now
pub record EndsMarked (tail : ℕ) (marked : (lsn estimate : ℕ) → Type 0) (ends_at : Image → (lsn estimate : ℕ) → Type 0) (now : disk.State) : Type 0 where
  pub lsn : ℕ
  pub estimate : ℕ
  pub appended : tail ≤ lsn
  pub still : StillMarked marked ends_at now lsn estimate

-- A CALL MADE A CHECKPOINT: the log had this tail before it, and these changes weren't on the disk
pub record HasMarked (tail : ℕ) (unwritten : ℕ → Type 0) (marked : (lsn estimate : ℕ) → Type 0) (ends_at : Image → (lsn estimate : ℕ) → Type 0) (now : disk.State) : Type 0 where
  pub ends : EndsMarked tail marked ends_at now
  pub estimates : Estimates unwritten ends.lsn ends.estimate
