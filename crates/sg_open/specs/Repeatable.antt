-- What is at hand when the log's records are about to be repeated, and while they are.
use Rattle.std.specs.Prelude.{◌≡◌, ◌+◌, ◌++◌, ℕ, Ok, List, [], None, length}
use Rattle.sg_base.specs.declared.area.Area.{Area}
use Rattle.sg_base.specs.declared.area.Area.TheVariants.{Home}
use Rattle.sg_disk.specs.Disk.{Image, View, Leaves}
use Rattle.sg_gate.specs.Batch.{IsReady}
use Rattle.sg_gate.specs.Superblock.{superblock}
use Rattle.sg_gate.specs.declared.superblock.Super.{Super}
use Rattle.sg_record.specs.Records.{Record}
use Rattle.sg_log.specs.Frames.{Numbered, Frames, numbered_in, gate_after}
use Rattle.sg_log.specs.Held.{Tail, Holds, tail_of}
use Rattle.sg_ops.specs.Table.{Table}
use Rattle.sg_pool.specs.declared.pool.Pool.{Pool}
use Rattle.sg_pool.specs.Pooled.{sizes, contents, Backs, IsUnwritten, IsLogged}
use Rattle.sg_pool.specs.Shelves.{lasts}
use Rattle.sg_engine.specs.Effects.{effect_in}
use Rattle.sg_engine.specs.Engine.{Origin, geometry, entries, IsLogOf, IsStanding}
use Rattle.sg_places.specs.Asked.{Undone, first_unknown}
use Rattle.sg_places.specs.Placed.{places_in}
use Rattle.sg_find.specs.Synced.{reads}
use Rattle.sg_opening.specs.Opening.{IsOpenable}
use Rattle.sg_opening.specs.Parts.{AreRepeated}

-- A NEW POOL of a store: no page is in a frame, and no band in a window
pub record IsNew (s : Super) (pool : Pool) : Type 0 where
  pub size : sizes pool ≡ geometry s
  pub backed : (v : View) → IsReady (v.now Home) → Backs (sizes pool) v pool
  pub written : (lsn : ℕ) → IsUnwritten pool lsn → ⊥
  pub bands : (v : View) (b : ℕ) → (contents v pool).band_since b ≡ None

-- THESE RECORDS MAY BE REPEATED from r on, of a log whose closed gate has this number: the image that was read can be opened with them, and
-- their operations are registered
pub record MayRepeat (t : Table) (o : Origin) (r gate : ℕ) (ds : List Numbered) : Type 0 where
  pub read : Image
  pub openable : IsOpenable o r gate ds read
  pub effect : (lsn : ℕ) (x : Record) → o.effect lsn x ≡ effect_in t lsn x
  pub undone : Undone
  pub known : first_unknown t r undone ds ≡ None

-- THE RECORDS ds CAN BE REPEATED from r on: nothing is pending, what was read can be opened, the log holds them, and nothing was repeated yet
pub record IsRepeatable (t : Table) (o : Origin) (r : ℕ) (ds : List Numbered) (v : View) (log : Tail) (pool : Pool) : Type 0 where
  pub settled : (a : Area) → (v.now a).pending ≡ []
  pub openable : IsOpenable o r log.gate ds (reads v)
  pub effect : (lsn : ℕ) (x : Record) → o.effect lsn x ≡ effect_in t lsn x
  pub undone : Undone
  pub known : first_unknown t r undone ds ≡ None
  pub place : IsLogOf o.super log
  pub held : Holds v log ds []
  pub new : IsNew o.super pool

-- HISTORY IS BEING REPEATED: of the log's frames the first are done and the others aren't. The disk has the store's superblock and the log,
-- each image that a crash leaves stands, and the pool's pages and bands are what the records of the first make from r on
pub record IsRepeating (o : Origin) (r : ℕ) (ds : List Numbered) (front back : List (List Record)) (v : View) (log : Tail) (pool : Pool) : Type 0 where
  pub rests : (c : Image) → Leaves v.now c → IsStanding o ds ds r c
  pub super : superblock (v.now Home).seen ≡ Ok o.super
  pub place : IsLogOf o.super log
  pub all : numbered_in o.super.base (front ++ back) ≡ ds
  pub stand : Frames (v.now log.area).seen 0 (front ++ back)
  pub at_gate : log.gate ≡ o.super.base + gate_after 0 (front ++ back)
  pub held : Holds v log ds []
  pub size : sizes pool ≡ geometry o.super
  pub backed : Backs (sizes pool) v pool
  pub logged : IsLogged (tail_of log) v pool
  pub units : AreRepeated (geometry o.super) o.first (entries o ds) (entries o (numbered_in o.super.base front)) r (o.super.base + gate_after 0 front) log.gate (v.now Home).seen (lasts pool.shelf) (contents v pool)

-- A STRETCH MORE IS DONE, from this offset on so many bytes, in so many steps: these frames, behind which the others begin
pub record HasRepeated (o : Origin) (r : ℕ) (ds : List Numbered) (front back : List (List Record)) (at size steps : ℕ) (w : View) (log log' : Tail) (pool : Pool) : Type 0 where
  pub part : List (List Record)
  pub rest : List (List Record)
  pub is_back : back ≡ part ++ rest
  pub behind : at + size ≡ gate_after 0 (front ++ part)
  pub same : log' ≡ log
  pub now : IsRepeating o r ds (front ++ part) rest w log' pool
  pub counted : steps ≡ length (places_in o.super.pages o.super.base r (numbered_in (o.super.base + at) part))
