-- The moments of a pool's call.
use Rattle.std.specs.Prelude.{◌≡◌, ◌⊎◌, ◌<◌, ℕ, List, [], ◌++◌}
use Rattle.sg_base.specs.declared.area.Area.{Area}
use Rattle.sg_base.specs.declared.area.Area.TheVariants.{Home}
use Rattle.sg_disk.specs.Disk.{Image, LeavesPart, View}
use Rattle.sg_log.specs.Frames.{Numbered, HasRecords}
use Rattle.sg_log.specs.Held.{Tail, Holds, tail_of, forced, IsBeforeOrAfter}
use Rattle.sg_gate.specs.Layout.{HEADER}
use Rattle.sg_gate.specs.Batch.{laid, IsBatch, numbers_of}
use Rattle.sg_pool.specs.Units.{Geometry, Units, IsGoing}

-- the log is as it was, or it was forced
abbrev pub IsSameOrForced : View → (log log' : Tail) → (ds ps : List Numbered) → Type 0
IsSameOrForced w log log' ds ps = ((log' ≡ log) × Holds w log ds ps) ⊎ ((log' ≡ forced log) × Holds w (forced log) (ds ++ ps) [])

-- units go home while these records are durable: those that were, or those of the buffer too
abbrev pub AreDurable : Tail → (ds ps : List Numbered) → ℕ → List Numbered → Type 0
AreDurable log ds ps d records = ((d ≡ log.gate) × (records ≡ ds)) ⊎ ((d ≡ tail_of log) × (records ≡ ds ++ ps))

-- an image: the log has the records below d, the header of an open batch is in range, and of what opening sees each unit is as it was, or
-- as the pool had it, with its last change below d. The superblock's slots are as they were
pub record GoesHome (g : Geometry) (v : View) (log : Tail) (ds ps : List Numbered) (last : ℕ → ℕ) (m : Units) (c : Image) : Type 0 where
  pub durable : ℕ
  pub records : List Numbered
  pub which : AreDurable log ds ps durable records
  pub held : HasRecords (c log.area) log.base durable records
  pub header : c Home HEADER ≡ 1 → IsBatch g.pages (numbers_of (c Home))
  pub going : IsGoing g durable last (v.now Home).seen m (laid (c Home))
  pub superblock : (i : ℕ) → i < HEADER → c Home i ≡ (v.now Home).seen i
  pub others : (b : Area) → (b ≡ Home → ⊥) → (b ≡ log.area → ⊥) → LeavesPart (v.now b) (c b)

-- A MOMENT OF A POOL'S CALL: as before the call or in a force of the log, or units go home
abbrev pub IsMoment : Geometry → View → Tail → (ds ps : List Numbered) → (ℕ → ℕ) → Units → Image → Type 0
IsMoment g v log ds ps last m c = IsBeforeOrAfter v.now log ds ps c ⊎ GoesHome g v log ds ps last m c
