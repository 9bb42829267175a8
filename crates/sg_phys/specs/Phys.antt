-- The page engine as the actions see it: a function of what it holds.
use Rattle.std.specs.Prelude.{◌≡◌, ◌⊎◌, ◌<◌, ◌≤◌, ◌+◌, ◌^◌, ◌==◌, ℕ, nat_lt, if◌then◌else◌, Bool, true, false, IsTrue, is_some, Option, None, option_map, List, [], ◌∷◌, ◌++◌, filter, length}
use Rattle.sg_base.specs.Page.{IsSlotted}
use Rattle.sg_base.specs.declared.page.TheConstants.{BAND_SIZE}
use Rattle.sg_base.specs.declared.area.Area.{Area}
use Rattle.sg_base.specs.declared.area.Area.TheVariants.{Home}
use Rattle.sg_disk.specs.Disk.{View, Image}
use Rattle.sg_gate.specs.Batch.{laid}
use Rattle.sg_gate.specs.declared.superblock.Super.{Super}
use Rattle.sg_log.specs.Frames.{Numbered}
use Rattle.sg_log.specs.Held.{Tail, place_of}
use Rattle.sg_ops.specs.Laws.{IsLawful}
use Rattle.sg_ops.specs.Table.{Table}
use Rattle.sg_pool.specs.declared.pool.Pool.{Pool}
use Rattle.sg_pool.specs.Pooled.{sizes, contents, frame_holding, window_holding}
use Rattle.sg_record.specs.Records.{spelled}
use Rattle.sg_record.specs.Shown.{by}
use Rattle.sg_redo.specs.Leaf.{leaf_of}
use Rattle.sg_recovery.specs.Laws.{Each}
use Rattle.sg_recovery.specs.Log.{tally}
use Rattle.sg_analysis.specs.Sights.{last_checkpoint}
use Rattle.sg_action.specs.States.{State}
use Rattle.sg_engine.specs.Effects.{effect_in}
use Rattle.sg_engine.specs.Engine.{Origin, entries, geometry}
use Rattle.sg_engine.specs.History.{made}
use Rattle.sg_engine.specs.Kept.{home_in}
use Rattle.sg_actions.specs.Engine.{EngineSeen}
use Rattle.sg_actions.specs.Steps.{repeated}
use Rattle.sg_phys_laws.specs.Listed.{listed}
use Rattle.sg_phys_laws.specs.Poised.{IsPoised}
use Rattle.sg_phys_laws.specs.Reading.{durable_in, waiting_in}
use Rattle.sg_phys_laws.specs.Recovers.{AllIn, no_band, super_in, origin_of}
use Rattle.sg_phys_laws.specs.States.{steps_of}

-- WHAT IS GIVEN of a disk: it tells what it holds, and what is presumed of it holds
abbrev pub IsGiven : (told : Bool) → (presumed : Type 0) → Type 0
IsGiven told presumed = IsTrue told × presumed

-- an engine tells where that is given, and until it has failed once
pub record Tells (Given : Type 0) (failed : Bool) : Type 0 where
  pub tells : Given
  pub whole : failed ≡ false

-- WHAT A POOL SAYS: how many pages and bands it has, and each by its bytes, whatever the operations are
abbrev pub pool_says : View → Pool → State
pool_says v pool = record {
  size = record { pages = (sizes pool).pages; bands = (sizes pool).bands };
  pages = λ n. if nat_lt n (sizes pool).pages then leaf_of ((contents v pool).page n) else None;
  bands = λ b. if nat_lt b (sizes pool).bands then listed BAND_SIZE ((contents v pool).byte b) else no_band;
}

-- WHAT IT REMEMBERS: the disk as it was when the store was opened; the superblock that counts now; the records that were cut off the log since
-- then, the oldest first; and the number of the log's last checkpoint
pub record Past : Type 0 where
  pub found : View
  pub super : Super
  pub gone : List Numbered
  pub checkpoint : Option ℕ

abbrev pub past_of : View → Super → List Numbered → Option ℕ → Past
past_of found super gone checkpoint = record { found = found; super = super; gone = gone; checkpoint = checkpoint }

-- the records with a number below this one
abbrev pub records_before : ℕ → List Numbered → List Numbered
records_before base ns = filter (λ n. nat_lt n.lsn base) ns

-- where a log stands of which nothing waits
abbrev pub settled : Area → (base gate : ℕ) → Tail
settled area base gate = record { area = area; base = base; gate = gate; buffer = [] }

-- THE RECORDS THAT ARE GONE, by the disk before each cut, where the log stood then, and where it begins behind it: those that were durable and
-- stood below that number
abbrev pub gone_by : {E C : Type 0} → (cuts : List (E × C)) → (disk : E → View) → (log : C → Tail) → (start : C → ℕ) → List Numbered
gone_by [] disk log start = []
gone_by (c ∷ cs) disk log start = records_before (start c.1) (durable_in (disk c.0) (log c.1)) ++ gone_by cs disk log start

-- where the records that begin at this number end, as far as each begins where the one before it ends
abbrev pub run_end : ℕ → List Numbered → ℕ
run_end at [] = at
run_end at (n ∷ ns) = if n.lsn == at then run_end (at + length (spelled n.is)) ns else at

-- THE END OF A LOG'S FIRST FRAME, whose gate and length are its first 5 bytes: 5 bytes stand between the records of two frames
abbrev pub first_end : (base : ℕ) → List Numbered → ℕ
first_end base ns = run_end (base + 5) ns

-- the number of the last checkpoint of a log, durable or not
abbrev pub last_in : View → Tail → Option ℕ
last_in v log = option_map (λ c. c.0) (last_checkpoint (durable_in v log ++ waiting_in log))

-- hardly any number is left for the superblock: it isn't renewed any more
abbrev pub IsSpent : Super → Type 0
IsSpent s = 2 ^ 64 ≤ s.sequence + 2

-- WHAT IT HOLDS, in plain values
pub record Parts : Type 0 where
  pub past : Past
  pub disk : View
  pub log : Tail
  pub pool : Pool
  pub failed : Bool
  -- the first call that failed was refused for the log's end
  pub full : Bool
  -- the log's tail, before the call that failed, and 1 where that is 0
  pub end : ℕ
  -- where what is durable of it ends, before the call that failed
  pub gate : ℕ
  -- the number of the record that was appended last, or was to be
  pub tried : ℕ
  -- how often a call failed
  pub breaks : ℕ
  -- how many records were appended
  pub records : ℕ

-- what reads gave of a disk then
abbrev pub seen_of : View → Image
seen_of v area i = (v.now area).seen i

-- WHAT IT SHOWS, which names no operations
abbrev pub seen_by : (Given : Type 0) → Parts → EngineSeen
seen_by Given p = record {
  Told = Tells Given p.failed;
  failed = p.failed;
  full = p.full;
  disk = p.disk;
  base = (super_in (seen_of p.past.found)).base;
  extent = record { pages = (sizes p.pool).pages; bands = (sizes p.pool).bands };
  now = pool_says p.disk p.pool;
  steps = steps_of (durable_in p.disk p.log ++ waiting_in p.log) ++ steps_of p.past.gone;
  durable = steps_of (durable_in p.disk p.log) ++ steps_of p.past.gone;
  tail = p.end;
  gate = p.gate;
  next = λ says. place_of p.log (by 0 0 says);
  tried = p.tried;
  faults = p.breaks;
  records = p.records;
}

-- WHAT THE LOG THAT IT HAS COMES FROM: what the records that are gone made of the home area that was found
abbrev pub origin_at : Table → Past → Origin
origin_at t q = record { effect = effect_in t; super = q.super; first = made (entries (origin_of t (seen_of q.found)) q.gone) (home_in (geometry q.super) (laid (seen_of q.found Home))) }

-- no record is gone, or the log begins later than the one that was found
abbrev pub BeginsLater : Past → Type 0
BeginsLater q = (((super_in (seen_of q.found)).base ≡ q.super.base) × (q.gone ≡ [])) ⊎ ((super_in (seen_of q.found)).base < q.super.base)

-- IT STANDS ON WHAT IS GONE: poised with the log that it has, from what the steps that are gone made; that log says what it said with them; they stand
-- below its first byte, and are of what there is; and the last checkpoint is the log's
pub record IsBehind (t : Table) (from : State) (q : Past) (disk : View) (log : Tail) (pool : Pool) : Type 0 where
  pub poised : IsPoised t (repeated t from (steps_of q.gone)) (origin_at t q) disk log pool
  pub says : tally (steps_of (durable_in disk log)) ≡ tally (steps_of (durable_in disk log) ++ steps_of q.gone)
  pub below : Each (λ r. r.lsn < q.super.base) (steps_of q.gone)
  pub within : AllIn q.super (steps_of q.gone)
  pub later : BeginsLater q
  pub last : q.checkpoint ≡ last_in disk log

-- IT STANDS FOR THESE OPERATIONS, and these pages and bands from which the steps of its log lead, those that are gone too. That is more than the disk
-- as it was found can say, whose pages have some of these steps already. Of one that has failed, or doesn't tell, nothing is said
pub record Stands (Given : Type 0) (failed : Bool) (past : Past) (disk : View) (log : Tail) (pool : Pool) (t : Table) (from : State) : Type 0 where
  pub lawful : IsLawful t
  pub known : ∥ (failed ≡ false → Given → IsBehind t from past disk log pool) ∥₁

-- it stands for some, where it tells
abbrev pub StandsForSome : (Given : Type 0) (failed : Bool) → Past → View → Tail → Pool → Type 0
StandsForSome Given failed past disk log pool = Tells Given failed → ∥ ((t : Table) × (from : State) × Stands Given failed past disk log pool t from) ∥₁

-- the same of what it holds
abbrev pub StandsBy : (Given : Type 0) → Parts → Table → State → Type 0
StandsBy Given p = Stands Given p.failed p.past p.disk p.log p.pool

-- A PAGE IS WHERE IT CAN BE LOOKED AT: it is held, and a page of slots
pub record IsLoaded (v : View) (pool : Pool) (p : ℕ) : Type 0 where
  pub page : p < (sizes pool).pages
  pub held : IsTrue (is_some (frame_holding pool p))
  pub slotted : IsSlotted ((contents v pool).page p)

-- and so is a band, or there is none with this number
abbrev pub IsBandLoaded : Pool → ℕ → Type 0
IsBandLoaded pool b = b < (sizes pool).bands → IsTrue (is_some (window_holding pool b))

-- BEHIND A CALL: one that appends no record,
abbrev pub looked : Parts → View → Tail → Pool → (end gate : ℕ) → Parts
looked p disk log pool end gate = record p { disk = disk; log = log; pool = pool; end = end; gate = gate }

-- one that appends a record of this number,
abbrev pub appended : Parts → View → Tail → Pool → (end gate tried records : ℕ) → Parts
appended p disk log pool end gate tried records = record p { disk = disk; log = log; pool = pool; end = end; gate = gate; tried = tried; records = records }

-- one that fails, with what it was to append, and whether it was refused for the log's end,
abbrev pub broken : Parts → View → Tail → Pool → (tried breaks : ℕ) → (full : Bool) → Parts
broken p disk log pool tried breaks full = record p { disk = disk; log = log; pool = pool; failed = true; full = full; tried = tried; breaks = breaks }

-- and one that makes no call of the disk, since an earlier one failed
abbrev pub stopped : Parts → (breaks : ℕ) → Parts
stopped p breaks = record p { breaks = breaks }

-- The log's last checkpoint has this number now,
abbrev pub noted : Parts → (checkpoint : Option ℕ) → Parts
noted p checkpoint = record p { past = record p.past { checkpoint = checkpoint } }

-- and behind a cut all of these records are gone, and this superblock counts; or these besides.
abbrev pub cut_to : Parts → (super : Super) → (gone : List Numbered) → Parts
cut_to p super gone = record p { past = record p.past { super = super; gone = gone } }

abbrev pub without : Parts → (super : Super) → (gone : List Numbered) → Parts
without p super gone = cut_to p super (p.past.gone ++ gone)
