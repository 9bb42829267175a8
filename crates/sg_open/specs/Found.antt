-- What was read of a store, before anything is written.
use Rattle.std.specs.Prelude.{◌≡◌, ◌⊎◌, max, ℕ, List, [], None}
use Rattle.sg_base.specs.declared.area.Area.{Area}
use Rattle.sg_disk.specs.Disk.{View, Leaves, LeavesOnly}
use Rattle.sg_log.specs.Frames.{Numbered}
use Rattle.sg_log.specs.Held.{Holds}
use Rattle.sg_record.specs.Records.{Record}
use Rattle.sg_engine.specs.Effects.{effect_in}
use Rattle.sg_engine.specs.Engine.{Origin, IsLogOf, IsStanding}
use Rattle.sg_ops.specs.Table.{Table}
use Rattle.sg_analysis.specs.Analysis.{analysis_of}
use Rattle.sg_places.specs.Asked.{undone_of, first_unknown}
use Rattle.sg_find.specs.Synced.{AreSynced, reads, redo_point}
use Rattle.sg_opening.specs.Opening.{IsOpenable}
use Rattle.sg_open.specs.declared.found.Found.{Found}

-- nothing is pending on the disk
abbrev pub IsSettledAll : View → Type 0
IsSettledAll v = (a : Area) → (v.now a).pending ≡ []

-- WHAT A STORE OPENS WITH, by what reads give: this origin, and these records of its log
abbrev pub Opens : Origin → (tail : ℕ) → List Numbered → View → Type 0
Opens o tail ds v = IsOpenable o (redo_point o.super.base ds) tail ds (reads v)

-- THE STORE IS FOUND: its superblock, its log with these records, whose operations are registered, and the point from which they are to be
-- repeated
pub record IsFound (t : Table) (v : View) (o : Origin) (tail : ℕ) (ds : List Numbered) (f : Found) : Type 0 where
  pub super : f.geometry ≡ o.super
  pub gate : f.log.gate ≡ tail
  pub place : IsLogOf o.super f.log
  pub held : Holds v f.log ds []
  pub point : max f.geometry.base f.analysis.estimate ≡ redo_point o.super.base ds
  pub known : first_unknown t (redo_point o.super.base ds) (undone_of (analysis_of o.super.base ds)) ds ≡ None

-- THE MOMENTS OF OPENING: until the three areas are synced a crash leaves what it could have left before; and from then on an image that
-- stands, for the same records and from the same redo point
abbrev pub AreOpening : Origin → List Numbered → (old new : View) → Type 0
AreOpening o ds old new = LeavesOnly old new (Leaves old.now)
    ⊎ ((mid : View) × AreSynced old.now mid.now × LeavesOnly old mid (Leaves old.now) × LeavesOnly mid new (IsStanding o ds ds (redo_point o.super.base ds)))

-- FROM THE SYNCS ON, whatever the image that was read can be opened with: each image stands for these records
abbrev pub IsGoingOn : Table → (old new mid : View) → Type 0
IsGoingOn t old new mid = (o : Origin) (tail : ℕ) (ds : List Numbered) → ((lsn : ℕ) (x : Record) → o.effect lsn x ≡ effect_in t lsn x) → Opens o tail ds old
    → LeavesOnly mid new (IsStanding o ds ds (redo_point o.super.base ds))
