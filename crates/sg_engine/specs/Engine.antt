-- THE PAGE ENGINE: what it keeps between calls, and what holds of each image of each moment.
use Rattle.std.specs.Prelude.{◌≡◌, ◌<◌, ◌==◌, ℕ, if◌then◌else◌, Ok, List, [], ◌∷◌, ◌++◌}
use Rattle.sg_base.specs.declared.area.Area.{Area}
use Rattle.sg_base.specs.declared.area.Area.TheVariants.{Home, Log0, Log1}
use Rattle.sg_disk.specs.Disk.{Image, View}
use Rattle.sg_record.specs.Records.{Record}
use Rattle.sg_log.specs.Frames.{Numbered, HasRecords}
use Rattle.sg_log.specs.Held.{Tail, Holds, tail_of}
use Rattle.sg_gate.specs.Layout.{HEADER}
use Rattle.sg_gate.specs.Batch.{laid, IsBatch, numbers_of}
use Rattle.sg_gate.specs.Superblock.{superblock}
use Rattle.sg_gate.specs.declared.superblock.Super.{Super}
use Rattle.sg_pool.specs.Units.{Geometry, Units, EachPage, IsBacked, IsBelow}
use Rattle.sg_engine.specs.History.{Effect, Entry, Homes, IsHistory, IsSound, RepeatsTo, IsNumbered}
use Rattle.sg_engine.specs.Kept.{home_in, IsJoined, AreLast, AreBehind}

-- how many pages and bands a store has, and where its log stands, by its superblock
abbrev pub geometry : Super → Geometry
geometry s = record { pages = s.pages; bands = s.bands }

abbrev pub log_area : Super → Area
log_area s = if s.log == 0 then Log0 else Log1

-- WHAT A STORE COMES FROM: what each record with its number does to the home area (`effect_in` of the registered operations, once the log has
-- records of all kinds), the superblock, and the home area that was read first
pub record Origin : Type 0 where
  pub effect : (lsn : ℕ) → Record → Effect
  pub super : Super
  pub first : Homes

-- the log's records as the home area has them
abbrev pub entry_of : Origin → Numbered → Entry
entry_of o n = record { lsn = n.lsn; effect = o.effect n.lsn n.is }

abbrev pub entries : Origin → List Numbered → List Entry
entries o [] = []
entries o (n ∷ ns) = entry_of o n ∷ entries o ns

-- AN IMAGE STANDS: its superblock is the store's, and in range; its log has a front of the appended records with all that were durable; its
-- home area is sound for these from the redo point r on, repeats to what they make, and is itself the first home of a history of them
pub record IsStanding (o : Origin) (ds all : List Numbered) (r : ℕ) (c : Image) : Type 0 where
  pub super : superblock (c Home) ≡ Ok o.super
  pub records : List Numbered
  pub tail : ℕ
  pub held : HasRecords (c (log_area o.super)) o.super.base tail records
  pub since : List Numbered
  pub later : records ≡ ds ++ since
  pub more : List Numbered
  pub front : all ≡ records ++ more
  pub header : c Home HEADER ≡ 1 → IsBatch o.super.pages (numbers_of (c Home))
  pub sound : IsSound (geometry o.super) r tail (entries o records) (home_in (geometry o.super) (laid (c Home)))
  pub repeats : RepeatsTo (geometry o.super) r (entries o records) o.first (home_in (geometry o.super) (laid (c Home)))
  pub history : IsHistory (geometry o.super) (home_in (geometry o.super) (laid (c Home))) (entries o records)

-- the two slots of the superblock have the bytes that reads gave
abbrev pub HasSlots : View → Image → Type 0
HasSlots v c = (i : ℕ) → i < HEADER → c Home i ≡ (v.now Home).seen i

-- the log stands where the superblock says
pub record IsLogOf (s : Super) (log : Tail) : Type 0 where
  pub area : log.area ≡ log_area s
  pub base : log.base ≡ s.base

-- BETWEEN CALLS, of the contents m of a pool and the numbers of its bands' last changes: the superblock is the store's, the log holds the
-- records ds on the disk and ps in its buffer, and the contents are what all of these make of the first home area
pub record IsEngineOf (o : Origin) (v : View) (log : Tail) (ds ps : List Numbered) (last : ℕ → ℕ) (m : Units) : Type 0 where
  pub super : superblock (v.now Home).seen ≡ Ok o.super
  pub place : IsLogOf o.super log
  pub held : Holds v log ds ps
  pub backed : IsBacked (geometry o.super) (v.now Home) m
  pub history : IsHistory (geometry o.super) o.first (entries o (ds ++ ps))
  pub started : EachPage (geometry o.super) (λ n. IsNumbered log.gate (o.first.page n))
  pub joined : IsJoined (geometry o.super) o.first (entries o (ds ++ ps)) log.gate (v.now Home).seen m
  pub lasts : AreLast (geometry o.super) (entries o (ds ++ ps)) last m
  pub below : IsBelow (geometry o.super) (tail_of log) m
  pub behind : AreBehind (geometry o.super) (tail_of log) m
