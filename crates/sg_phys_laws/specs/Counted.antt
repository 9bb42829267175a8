-- How a call of the engine counts, and where one for a record may fail.
use Rattle.std.specs.Prelude.{◌≡◌, ◌<◌, ◌≤◌, ℕ, Bool, IsTrue, List, Option, Some, None, Result, Err, ⊤}
use Rattle.sg_base.specs.Ends.{HasRisen}
use Rattle.sg_disk.specs.Disk.{View}
use Rattle.sg_disk.specs.Heeds.{Heeds}
use Rattle.sg_log.specs.Frames.{Numbered}
use Rattle.sg_log.specs.Held.{Tail}
use Rattle.sg_pool.specs.Pooled.{sizes}
use Rattle.sg_pool.specs.Units.{Geometry}
use Rattle.sg_pool.specs.declared.pool.Pool.{Pool}
use Rattle.sg_record.specs.Changes.{Change}
use Rattle.sg_record.specs.Changes.Change.{Page, SegWrite, SegOp}
use Rattle.sg_record.specs.Records.{Record}
use Rattle.sg_redo.specs.Places.{changed_by}
use Rattle.sg_engine.specs.Calls.{Hands}
use Rattle.sg_engine.specs.Engine.{Origin}
use Rattle.sg_engine.specs.Faults.{is_disk}
use Rattle.sg_engine.specs.Running.{IsEngine}
use Rattle.sg_engine.specs.declared.fault.EngineFault.{EngineFault}
use Rattle.sg_engine.specs.declared.fault.EngineFault.TheVariants.{Disk}

-- WHAT A CALL LEAVES OF THE COUNTS, on any disk: none falls, no fault is passed over, and what is durable of the log grows by no more than is
-- handed over. There are as many pages and bands as before
pub record HasCounted {T : Type 0} (v w : View) (log log' : Tail) (pool pool' : Pool) (result : Result T EngineFault) : Type 0 where
  pub later : v.faults ≤ w.faults
  pub heeded : Heeds is_disk result v w
  pub hands : Hands v log w log'
  pub size : sizes pool' ≡ sizes pool

-- a change is of a page or a band that there is
abbrev pub LiesIn : Geometry → Option Change → Type 0
LiesIn g None = ⊤
LiesIn g (Some (Page c)) = c.page < g.pages
LiesIn g (Some (SegWrite c)) = c.band < g.bands
LiesIn g (Some (SegOp c)) = c.band < g.bands

-- A CALL FOR A RECORD fails for the disk only where that failed, if the record changes what there is
abbrev pub FailsFor : Bool → View → Tail → Pool → View → Record → Result ℕ EngineFault → Type 0
FailsFor told v log pool w r result = (o : Origin) (ds ps : List Numbered) → IsTrue told → IsEngine o v log ds ps pool → LiesIn (sizes pool) (changed_by r.says) → result ≡ Err Disk → HasRisen v.faults w.faults
