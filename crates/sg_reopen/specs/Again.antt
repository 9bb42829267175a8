-- A STORE OPENED AGAIN: what an image that stands is opened as, and that its records make what they made before.
use Rattle.std.specs.Prelude.{◌≡◌, ◌≤◌, ℕ, List, [], ◌∷◌, ◌++◌}
use Rattle.sg_base.specs.declared.area.Area.TheVariants.{Home}
use Rattle.sg_disk.specs.Disk.{Image}
use Rattle.sg_log.specs.Frames.{Numbered}
use Rattle.sg_gate.specs.Batch.{laid}
use Rattle.sg_analysis.specs.Sights.{Sight, sight_of}
use Rattle.sg_analysis.specs.Sights.Sight.{Stepped, Estimated}
use Rattle.sg_engine.specs.History.{Homes, made, AreSame}
use Rattle.sg_engine.specs.Kept.{home_in}
use Rattle.sg_engine.specs.Engine.{Origin, entries, geometry, IsStanding}
use Rattle.sg_find.specs.Synced.{redo_point}

-- the same store with another first home area
abbrev pub at_home : Origin → Homes → Origin
at_home o f = record o { first = f }

-- the home area that opening reads of an image, with an open batch laid over
abbrev pub image_home : Origin → Image → Homes
image_home o c = home_in (geometry o.super) (laid (c Home))

-- THE ORIGIN of the store that is opened from this image
abbrev pub origin_at : Origin → Image → Origin
origin_at o c = at_home o (image_home o c)

-- THESE RECORDS MAKE THE SAME of this home area and of the store's first one
abbrev pub MakesSame : Origin → List Numbered → Homes → Type 0
MakesSame o rs f = AreSame (geometry o.super) (made (entries o rs) f) (made (entries o rs) o.first)

-- a checkpoint estimates what is allowed, and no more than its own number
abbrev pub IsMarked : (allowed : ℕ → Type 0) → (lsn : ℕ) → Sight → Type 0
IsMarked allowed lsn (Stepped x) = Unit {0}
IsMarked allowed lsn (Estimated estimate) = allowed estimate × (estimate ≤ lsn)

-- so is each of these records
abbrev pub AreMarked : (allowed : ℕ → Type 0) → List Numbered → Type 0
AreMarked allowed [] = Unit {0}
AreMarked allowed (n ∷ ns) = IsMarked allowed n.lsn (sight_of n.is) × AreMarked allowed ns

-- AN IMAGE STANDS FROM ITS OWN REDO POINT: that of the records of its log, whose checkpoints estimate no more than their own numbers
pub record StandsAgain (o : Origin) (ds all : List Numbered) (c : Image) : Type 0 where
  pub point : ℕ
  pub stands : IsStanding o ds all point c
  pub own : point ≡ redo_point o.super.base stands.records
  pub low : AreMarked (λ k. Unit {0}) stands.records

-- THE POINTS of a log are allowed: that of its durable records, and what each checkpoint behind them estimates
pub record ArePoints (o : Origin) (allowed : ℕ → Type 0) (ds all : List Numbered) : Type 0 where
  pub more : List Numbered
  pub is_all : all ≡ ds ++ more
  pub low : AreMarked (λ k. Unit {0}) ds
  pub start : allowed o.super.base
  pub now : allowed (redo_point o.super.base ds)
  pub marked : AreMarked allowed more
