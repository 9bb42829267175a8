-- WHAT AN APPLICATION MAY REST ON, call by call: which transactions are live, which objects the store has, and which objects each
-- image stands for that a crash may leave.
use Rattle.std.specs.Prelude.{◌≡◌, ℕ, List, [], map, None, Ok}
use Rattle.std.specs.List.{filter}
use Rattle.sg_disk.specs.Disk.{Image, Leaves}
use Rattle.sg_ops.specs.Table.{Table as Operations}
use Rattle.sg_serial.specs.Machine.{run}
use Rattle.sg_serial.specs.Runs.{is_own}
use Rattle.sg_model.specs.Objects.{Objects}
use Rattle.sg_model.specs.Verb.{Op, Reply}
use Rattle.sg_model.specs.Step.{step}
use Rattle.sg_recovery.specs.Log.{without}
use Rattle.sg_run.specs.Run.{Run, Event, live_objects, committed_objects}
use Rattle.sg_store.specs.declared.engine.Engine.{Ghosts}
use Rattle.sg_store.specs.declared.store.Store as code_store
use Rattle.sg_store.specs.Ground.{Ground, IsLawful}
use Rattle.sg_store.specs.Engine.{View, AskedBy}
use Rattle.sg_store.specs.Stands.{StandsFor}
use Rattle.sg_store.specs.Store.{Core, Shows}
use Rattle.sg_store.specs.Seen.{core_of}

-- A store that goes on shows a run in which these transactions are live, in order of begin, with these objects. Each image that a
-- crash leaves now stands for the durable ones; and where no transaction is live these are the store's
pub record HasObjects (live : List ℕ) (objects durable : Objects) (k : Core) (t : Operations) (g : Ground) (v : View g) : Type 0 where
  pub lawful : IsLawful t g
  pub run : Run
  pub shows : Shows t g v k run
  pub running : run.stopped ≡ None
  pub live_are : map (λ l. l.transaction) run.so_far.live ≡ live
  pub objects_are : live_objects t run ≡ objects
  pub durable_are : committed_objects t run ≡ durable
  pub images : (c : Image) → Leaves v.disk.now c → StandsFor t g c durable
  pub at_rest : live ≡ [] → objects ≡ durable

-- where its engine tells the store has these transactions and objects, by these operations
abbrev pub Has : {E : Type 0} {ghosts : Ghosts E} → Operations → code_store.Store E ghosts → List ℕ → (objects durable : Objects) → Type 0
Has {ghosts = ghosts} t s live objects durable = AskedBy t (ghosts.view s.engine) (HasObjects live objects durable (core_of s) t)

-- the durable objects are now those with some operations of this transaction done
pub record HasAdded (t : Operations) (u : ℕ) (before after : Objects) : Type 0 where
  pub done : List Event
  pub own : filter (is_own u) done ≡ done
  pub adds : after ≡ run (step t) before done

-- an operation got this reply, and its step was done
pub record HasDone (live : List ℕ) (before durable : Objects) (op : Op) (reply : Reply) (k : Core) (t : Operations) (g : Ground) (v : View g) : Type 0 where
  pub replied : (step t before op).0 ≡ Ok reply
  pub has : HasObjects live (step t before op).1 durable k t g v

-- a transaction has committed: the objects are as before, and what it did is durable
pub record HasCommitted (u : ℕ) (live : List ℕ) (objects before : Objects) (k : Core) (t : Operations) (g : Ground) (v : View g) : Type 0 where
  pub after : Objects
  pub has : HasObjects (without u live) objects after k t g v
  pub added : HasAdded t u before after

-- a transaction has gone back to a mark: what is durable is as before
pub record HasGoneBack (live : List ℕ) (durable : Objects) (k : Core) (t : Operations) (g : Ground) (v : View g) : Type 0 where
  pub after : Objects
  pub has : HasObjects live after durable k t g v

-- a transaction has been taken back: what is durable is as before
pub record HasAborted (u : ℕ) (live : List ℕ) (durable : Objects) (k : Core) (t : Operations) (g : Ground) (v : View g) : Type 0 where
  pub after : Objects
  pub has : HasObjects (without u live) after durable k t g v
