-- How a session ends.
use Rattle.std.specs.Prelude.{◌≡◌, ◌⊎◌, ℕ, [], Option, Some, None, IsSome, Result, Ok, Err}
use Rattle.sg_disk.specs.Disk as disk
use Rattle.sg_ops.specs.Table.{Table as Operations}
use Rattle.sg_serial.specs.Runs.{Live}
use Rattle.sg_model.specs.declared.stop.Stop.{Stop}
use Rattle.sg_run.specs.Run.{Run, committed_objects}
use Rattle.sg_run.specs.Numbers.{Refusal, Aborts, Checkpoints}
use Rattle.sg_store.specs.declared.fault.Refused.{Refused}
use Rattle.sg_store.specs.Stops.{stop_behind}
use Rattle.sg_store.specs.Calls as calls
use Rattle.sg_store.specs.Store as stores
use Rattle.sg_store.specs.Ground.{Ground}
use Rattle.sg_store.specs.Engine.{View}
use Rattle.sg_store.specs.Stands.{StandsFor, StandsForFirst}
use Rattle.sg_session.specs.Names.{first_live}
use Rattle.sg_session.specs.Shows.{Core, Shows}

-- some live transactions abort, each the first begun of those that are live then
pub data AbortInOrder (x : Run) : Run → Type 0 where
  none : AbortInOrder x x
  and_first : (y z : Run) (l : Live) (tail before now : ℕ) → AbortInOrder x y → first_live y.so_far.live ≡ Some l
      → Aborts tail before now l.transaction y (Ok tt) z → AbortInOrder x z

-- the abort of the first one fails
pub record FailsAtFirst (x y : Run) : Type 0 where
  pub first : Live
  pub is_first : first_live x.so_far.live ≡ Some first
  pub why : Refusal
  pub tail : ℕ
  pub before : ℕ
  pub now : ℕ
  pub fails : Aborts tail before now first.transaction x (Err why) y

-- all of them abort in order of begin, up to the first whose abort fails
pub record AbortsAll (x y : Run) : Type 0 where
  pub mid : Run
  pub done : AbortInOrder x mid
  pub over : ((mid.so_far.live ≡ []) × (y ≡ mid)) ⊎ FailsAtFirst mid y

-- no commit was added, and none was answered
pub record AddsNone (x y : Run) : Type 0 where
  pub first : y.so_far.first ≡ x.so_far.first
  pub commits : y.so_far.commits ≡ x.so_far.commits
  pub answered : y.so_far.answered ≡ x.so_far.answered

-- So they were, in a session that showed x
pub record HasAborted (t : Operations) (g : Ground) (v : View g) (x : Run) (w : View g) (m : Core) : Type 0 where
  pub after : Run
  pub aborts : AbortsAll x after
  pub none_live : after.stopped ≡ None → after.so_far.live ≡ []
  pub adds_none : AddsNone x after
  pub shows : Shows t g w m after
  pub moments : disk.LeavesOnly v.disk w.disk (StandsForFirst t g x.so_far.answered x)

-- some of them were
pub record AreAborting (t : Operations) (g : Ground) (v : View g) (x : Run) (w : View g) (m : Core) : Type 0 where
  pub mid : Run
  pub done : AbortInOrder x mid
  pub going : mid.stopped ≡ None
  pub adds_none : AddsNone x mid
  pub shows : Shows t g w m mid
  pub moments : disk.LeavesOnly v.disk w.disk (StandsForFirst t g x.so_far.answered x)

-- a checkpoint was made and all was written home, unless the store had stopped
pub record IsClosed (t : Operations) (g : Ground) (v : View g) (k : Core) (x : Run) (stopped : Option Stop) (w : View g) : Type 0 where
  pub outcome : Result (Unit {0}) Refused
  pub store : stores.Core
  pub is_behind : stopped ≡ stop_behind k.store.stopped outcome
  pub goes : calls.Goes t g v x (calls.Checkpoints w.tail v.faults w.faults x outcome) w store

-- THE END OF A RUN. Unless it had stopped, its live transactions have aborted in order of begin, up to the first whose abort
-- failed; then a checkpoint was made and all was written home, unless it has stopped. No commit was added: each image of each moment stands for the first
-- commits of the run, all that were answered among them. Where the store hasn't stopped, no transaction is live, and each image
-- that is left stands for the committed objects
pub record IsEnded (t : Operations) (g : Ground) (v : View g) (x : Run) (stopped : Option Stop) (w : View g) : Type 0 where
  pub aborted : Run
  pub aborts : x.stopped ≡ None → AbortsAll x aborted
  pub left : IsSome x.stopped → aborted ≡ x
  pub after : Run
  pub outcome : Result (Unit {0}) Refusal
  pub tail : ℕ
  pub before : ℕ
  pub now : ℕ
  pub written : Checkpoints tail before now aborted outcome after
  pub adds_none : AddsNone x after
  pub stopped_is : stopped ≡ after.stopped
  pub none_live : stopped ≡ None → after.so_far.live ≡ []
  pub moments : disk.LeavesOnly v.disk w.disk (StandsForFirst t g x.so_far.answered x)
  pub kept : stopped ≡ None → (c : disk.Image) → disk.Leaves w.disk.now c → StandsFor t g c (committed_objects t x)
