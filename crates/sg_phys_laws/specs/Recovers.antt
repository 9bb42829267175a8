-- What an image of the disk holds, as the store has it: functions of the image.
use Rattle.std.specs.Prelude.{◌≡◌, ◌<◌, ℕ, nat_lt, if◌then◌else◌, Result, Ok, Err, None, List, [], ◌∷◌, ⊤}
use Rattle.sg_base.specs.declared.area.Area.TheVariants.{Home}
use Rattle.sg_base.specs.declared.page.TheConstants.{BAND_SIZE}
use Rattle.sg_disk.specs.Disk.{Image}
use Rattle.sg_gate.specs.Batch.{laid, IsBatch, numbers_of}
use Rattle.sg_gate.specs.Layout.{HEADER}
use Rattle.sg_gate.specs.Superblock.{superblock}
use Rattle.sg_gate.specs.declared.superblock.Super.{Super}
use Rattle.sg_gate.specs.declared.fault.GateFault.{GateFault}
use Rattle.sg_log.specs.Frames.{Numbered, HasRecords, LOG_END}
use Rattle.sg_record.specs.Changes.{Change as Changing}
use Rattle.sg_record.specs.Changes.Change.{Page, SegWrite, SegOp}
use Rattle.sg_recovery.specs.Formed.{IsLog}
use Rattle.sg_recovery.specs.Log.Record.{Change, PhysComp}
use Rattle.sg_ops.specs.Table.{Table}
use Rattle.sg_action.specs.States.{State, Extent}
use Rattle.sg_engine.specs.History.{IsHistory, IsSound}
use Rattle.sg_engine.specs.Kept.{home_in}
use Rattle.sg_engine.specs.Effects.{effect_in}
use Rattle.sg_engine.specs.Engine.{Origin, entries, geometry, log_area, IsStanding}
use Rattle.sg_actions.specs.Steps.{Step, Steps, repeated}
use Rattle.sg_phys_laws.specs.Images.{homes_in}
use Rattle.sg_phys_laws.specs.Known.{IsEnough}
use Rattle.sg_phys_laws.specs.Listed.{listed}
use Rattle.sg_phys_laws.specs.Points.{redo_point, AreMarked}
use Rattle.sg_phys_laws.specs.Reading.{frames_read}
use Rattle.sg_phys_laws.specs.States.{state_of, steps_of}

-- a band of which nothing is known: zeros
abbrev pub no_band : List ℕ
no_band = listed BAND_SIZE (λ i. 0)

-- how many pages and bands a superblock says
abbrev pub extent_by : Super → Extent
extent_by s = record { pages = s.pages; bands = s.bands }

-- the pages and bands of a store of this size. Beyond it no page says anything, and each band is zeros
abbrev pub cut_at : Super → State → State
cut_at s x = record { size = extent_by s; pages = λ n. if nat_lt n s.pages then x.pages n else None; bands = λ b. if nat_lt b s.bands then x.bands b else no_band }

-- a change is of a page or a band of such a store
abbrev pub IsIn : Super → Changing → Type 0
IsIn s (Page c) = c.page < s.pages
IsIn s (SegWrite c) = c.band < s.bands
IsIn s (SegOp c) = c.band < s.bands

abbrev pub StepIn : Super → Step → Type 0
StepIn s (Change u p c) = IsIn s c
StepIn s (PhysComp u p w c) = IsIn s c
StepIn s _ = ⊤

abbrev pub AllIn : Super → Steps → Type 0
AllIn s [] = ⊤
AllIn s (r ∷ rs) = StepIn s r.is × AllIn s rs

-- THE RECORDS that an image's log holds
unfoldable pub records_in : Origin → Image → List Numbered
records_in o c = frames_read LOG_END (c (log_area o.super)) o.super.base 0

-- the redo point of these
abbrev pub point_in : Origin → Image → ℕ
point_in o c = redo_point o.super.base (records_in o c)

-- WHAT ITS PAGES AND BANDS SAY once history is repeated from there
abbrev pub said_in : Origin → Image → State
said_in o c = cut_at o.super (state_of (homes_in o (point_in o c) (records_in o c) c))

-- an image is sound for these records from a redo point on, by itself: what an opening asks
pub record IsSoundImage (o : Origin) (k : ℕ) (ns : List Numbered) (c : Image) : Type 0 where
  pub super : superblock (c Home) ≡ Ok o.super
  pub tail : ℕ
  pub held : HasRecords (c (log_area o.super)) o.super.base tail ns
  pub header : c Home HEADER ≡ 1 → IsBatch o.super.pages (numbers_of (c Home))
  pub sound : IsSound (geometry o.super) k tail (entries o ns) (home_in (geometry o.super) (laid (c Home)))
  pub history : IsHistory (geometry o.super) (home_in (geometry o.super) (laid (c Home))) (entries o ns)
  pub low : AreMarked (λ k. Unit {0}) ns

-- THE IMAGE'S LOG holds these steps, and with history repeated from its redo point its pages and bands say this. It is sound, the log is formed, and
-- by this table enough operations are registered for an opening of it
pub record Recovers (t : Table) (o : Origin) (c : Image) (front : Steps) (x : State) : Type 0 where
  pub records : front ≡ steps_of (records_in o c)
  pub state : x ≡ said_in o c
  pub sound : ∥ IsSoundImage o (point_in o c) (records_in o c) c ∥₁
  pub formed : ∥ IsLog o.super.base front ∥₁
  pub registered : IsEnough t o.super.base (records_in o c)

-- AN IMAGE STANDS FROM ITS OWN REDO POINT: that of the records of its log, whose checkpoints estimate no more than their own numbers
pub record StandsOwn (o : Origin) (ds all : List Numbered) (c : Image) : Type 0 where
  pub point : ℕ
  pub stands : IsStanding o ds all point c
  pub own : point ≡ redo_point o.super.base stands.records
  pub low : AreMarked (λ k. Unit {0}) stands.records

-- WHERE A STORE BEGINS, by the bytes of its areas alone: its superblock (nothing is said of one that can't be read), the home area that was
-- found, and what records do by these operations
abbrev pub super_of : Result Super GateFault → Super
super_of (Ok s) = s
super_of (Err e) = record { sequence = 0; pages = 0; bands = 0; frames = 0; windows = 0; log = 0; base = 0 }

abbrev pub super_in : Image → Super
super_in c = super_of (superblock (c Home))

abbrev pub origin_of : Table → Image → Origin
origin_of t c = record { effect = effect_in t; super = super_in c; first = home_in (geometry (super_in c)) (laid (c Home)) }

-- THE SAME OF AN IMAGE AND A TABLE alone: the store's `recovers`. The steps lead to these pages and bands from some others
pub record RecoversBy (t : Table) (c : Image) (front : Steps) (x : State) : Type 0 where
  pub holds : Recovers t (origin_of t c) c front x
  pub leads : (from : State) × (x ≡ repeated t from front)
