-- WHAT A CALL OF THE ENGINE KEEPS: of the disk, the log and the pool before it, v, log and pool, and after it, w, log' and pool'.
use Rattle.std.specs.Prelude.{◌≡◌, ◌≤◌, ◌+◌, ◌++◌, ◌∷◌, ℕ, Bool, IsTrue, List, [], Result, Err, OnOk}
use Rattle.sg_base.specs.Ends.{HasRisen}
use Rattle.sg_disk.specs.Disk.{View, LeavesOnly}
use Rattle.sg_log.specs.Frames.{Numbered}
use Rattle.sg_log.specs.Held.{Tail, tail_of}
use Rattle.sg_pool.specs.Counts.{HasGrown}
use Rattle.sg_pool.specs.declared.pool.Pool.{Pool}
use Rattle.sg_engine.specs.declared.fault.EngineFault.{EngineFault}
use Rattle.sg_engine.specs.declared.fault.EngineFault.TheVariants.{Disk}
use Rattle.sg_engine.specs.Engine.{Origin, IsStanding}
use Rattle.sg_engine.specs.Running.{IsEngine, HasGoneOn, IsAllowed}

-- it fails only where the disk does
abbrev pub FailsByDisk : {T : Type 0} → Bool → View → Tail → Pool → View → Result T EngineFault → Type 0
FailsByDisk told v log pool w result = (o : Origin) (ds ps : List Numbered) → IsTrue told → IsEngine o v log ds ps pool → result ≡ Err Disk → HasRisen v.faults w.faults

-- the engine goes on with the same records
abbrev pub GoesOn : {T : Type 0} → Bool → View → Tail → Pool → View → Tail → Pool → Result T EngineFault → Type 0
GoesOn told v log pool w log' pool' result = (o : Origin) (ds ps : List Numbered) → IsTrue told → IsEngine o v log ds ps pool → OnOk result (HasGoneOn o w log' ds (ds ++ ps) pool')

-- the engine goes on with the same records, all of which are durable
abbrev pub MakesDurable : {T : Type 0} → Bool → View → Tail → Pool → View → Tail → Pool → Result T EngineFault → Type 0
MakesDurable told v log pool w log' pool' result = (o : Origin) (ds ps : List Numbered) → IsTrue told → IsEngine o v log ds ps pool → OnOk result (IsEngine o w log' (ds ++ ps) [] pool')

-- a redo point that was allowed still is
abbrev pub KeepsAllowed : {T : Type 0} → Bool → View → Tail → Pool → View → Tail → Pool → Result T EngineFault → Type 0
KeepsAllowed told v log pool w log' pool' result = (o : Origin) (ds ps : List Numbered) (k : ℕ) → IsTrue told → IsEngine o v log ds ps pool → IsAllowed o v log pool k → OnOk result (IsAllowed o w log' pool' k)

-- AT EACH MOMENT, whether the call succeeds or fails, each image that a crash leaves stands, from each redo point that was allowed: its
-- records are a front of those that were appended, with all that were durable
abbrev pub StandsMeanwhile : Bool → View → Tail → Pool → View → Type 0
StandsMeanwhile told v log pool w = (o : Origin) (ds ps : List Numbered) (k : ℕ) → IsTrue told → IsEngine o v log ds ps pool → IsAllowed o v log pool k → LeavesOnly v w (IsStanding o ds (ds ++ ps) k)

-- THE RECORD x IS APPENDED where it may come: the engine goes on with it behind the others
abbrev pub GoesOnWith : {T : Type 0} → Bool → View → Tail → Pool → View → Tail → Pool → Numbered → (May : Origin → List Numbered → Type 0) → Result T EngineFault → Type 0
GoesOnWith told v log pool w log' pool' x May result = (o : Origin) (ds ps : List Numbered) → IsTrue told → IsEngine o v log ds ps pool → May o (ds ++ ps) → OnOk result (HasGoneOn o w log' ds ((ds ++ ps) ++ x ∷ []) pool')

-- and each image of each moment stands with it or without it
abbrev pub StandsWith : Bool → View → Tail → Pool → View → Numbered → (May : Origin → List Numbered → Type 0) → Type 0
StandsWith told v log pool w x May = (o : Origin) (ds ps : List Numbered) (k : ℕ) → IsTrue told → IsEngine o v log ds ps pool → IsAllowed o v log pool k → May o (ds ++ ps) → LeavesOnly v w (IsStanding o ds ((ds ++ ps) ++ x ∷ []) k)

-- WHAT IT HANDS TO THE DISK: the bytes handed over never fall, and the log's durable part grows by no more than these, as far as they are
-- counted
pub record Hands (v : View) (log : Tail) (w : View) (log' : Tail) : Type 0 where
  pub rising : v.handed ≤ w.handed
  pub grown : HasGrown log log' v w

-- what waits at the log's end to be durable is a frame at most, with its head
abbrev pub WaitsFrame : Tail → Type 0
WaitsFrame log = tail_of log ≤ log.gate + 65541
