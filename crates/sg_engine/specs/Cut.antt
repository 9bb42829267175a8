-- A STORE WHOSE LOG IS CUT: the records up to a point are gone, and the store comes from what they made.
use Rattle.std.specs.Prelude.{◌≡◌, ◌≢◌, ◌⊎◌, ◌<◌, ◌≤◌, ◌+◌, ◌-◌, ◌==◌, ℕ, if◌then◌else◌, Ok, List, [], ◌∷◌, ◌++◌}
use Rattle.sg_base.specs.declared.area.Area.TheVariants.{Home}
use Rattle.sg_disk.specs.Disk.{Bytes, Image, Part, View}
use Rattle.sg_log.specs.Frames.{Numbered, HasRecords}
use Rattle.sg_gate.specs.Layout.{HEADER, PLACES, HOMES}
use Rattle.sg_gate.specs.Superblock.{superblock}
use Rattle.sg_gate.specs.declared.superblock.Super.{Super}
use Rattle.sg_pool.specs.Units.{Units, EachPage, IsBacked, IsBelow}
use Rattle.sg_engine.specs.Numbers.{AllUnder, AllFrom}
use Rattle.sg_engine.specs.History.{Homes, entry_number, made, IsHistory, IsNumbered}
use Rattle.sg_engine.specs.Kept.{IsJoined, AreLast, AreBehind}
use Rattle.sg_log.specs.Held.{Tail}
use Rattle.sg_log.specs.Cut.{IsSplit, gate_of, gone_of, kept_of}
use Rattle.sg_pool.specs.declared.pool.Pool.{Pool}
use Rattle.sg_engine.specs.Engine.{Origin, entries, geometry, log_area, IsStanding}
use Rattle.sg_engine.specs.Running.{IsAllowed, IsEngine}

-- what a superblock says of the log: in which area it stands, and the number of that area's first byte; and how new it is
pub record Stand : Type 0 where
  pub sequence : ℕ
  pub log : ℕ
  pub base : ℕ

abbrev pub stand_of : Super → Stand
stand_of s = record { sequence = s.sequence; log = s.log; base = s.base }

-- the superblock of the same store with its log there
abbrev pub super_at : Super → Stand → Super
super_at s a = record s { sequence = a.sequence; log = a.log; base = a.base }

-- the next one, once the log is cut at this number: the log is in the other area
abbrev pub next_stand : Super → (base : ℕ) → Stand
next_stand s base = record { sequence = s.sequence + 1; log = if s.log == 0 then 1 else 0; base = base }

-- THE ORIGIN OF A STORE WITHOUT THESE RECORDS: it comes from what they made of its first home area
abbrev pub cut_at : Origin → Stand → List Numbered → Origin
cut_at o a gone = record { effect = o.effect; super = super_at o.super a; first = made (entries o gone) o.first }

-- WHAT A RUNNING STORE MADE, whatever its superblock says and wherever its log stands: the contents m of a pool are what these records, all
-- of them durable, made of the first home area, and the homes are versions of it. gate is the number of the log's closed gate, and of its tail
pub record IsMade (o : Origin) (p : Part) (gate : ℕ) (ds : List Numbered) (last : ℕ → ℕ) (m : Units) : Type 0 where
  pub backed : IsBacked (geometry o.super) p m
  pub history : IsHistory (geometry o.super) o.first (entries o ds)
  pub started : EachPage (geometry o.super) (λ n. IsNumbered gate (o.first.page n))
  pub joined : IsJoined (geometry o.super) o.first (entries o ds) gate p.seen m
  pub lasts : AreLast (geometry o.super) (entries o ds) last m
  pub below : IsBelow (geometry o.super) gate m
  pub behind : AreBehind (geometry o.super) gate m

-- AN IMAGE AT REST but for its superblock and its logs: all else of its home area is as it reads, as far as nothing is pending there
abbrev pub RestsAt : Part → Image → Type 0
RestsAt p c = (i : ℕ) → HEADER ≤ i → (i < PLACES) ⊎ (HOMES ≤ i) → c Home i ≡ p.seen i

-- AN IMAGE STANDS with these durable records alone, from each point that is allowed
abbrev pub StandsAs : Origin → View → Tail → Pool → List Numbered → Image → Type 0
StandsAs o v log pool ds c = (k : ℕ) → IsAllowed o v log pool k → IsStanding o ds ds k c

-- AN IMAGE OF A MOMENT of a cut at this point: it stands as before, or with the records in front of the point's frame gone
abbrev pub IsCutting : Origin → View → Tail → Pool → (point : ℕ) → List Numbered → Image → Type 0
IsCutting o v log pool point ds c = StandsAs o v log pool ds c
    ⊎ ((s : IsSplit log.base point ds) × (a : Stand) × (a.base ≡ gate_of s) × ((k : ℕ) → IsAllowed o v log pool k → IsStanding (cut_at o a (gone_of s)) (kept_of s) (kept_of s) k c))

-- THE ENGINE ONCE ITS LOG IS CUT at this point, with the superblock that counts then: without the records that are gone, or as before
-- where the first frame holds the point
abbrev pub IsCutOff : Origin → View → Tail → Pool → (base point : ℕ) → List Numbered → Super → Type 0
IsCutOff o w log pool base point ds t = (s : IsSplit base point ds)
    × (((gate_of s ≡ base) × (t ≡ o.super) × IsEngine o w log ds [] pool)
    ⊎ ((t ≡ super_at o.super (next_stand o.super (gate_of s))) × IsEngine (cut_at o (next_stand o.super (gate_of s)) (gone_of s)) w log (kept_of s) [] pool))
