-- What the parts of a store's calls ask where its engine tells: a run that it keeps, so far.
use Rattle.std.specs.Prelude.{◌≡◌, ◌+◌, ◌≤◌, true, ℕ, List}
use Rattle.sg_ops.specs.Table.{Table as Operations}
use Rattle.sg_serial.specs.Runs.{is_live}
use Rattle.sg_model.specs.Verb.{Op}
use Rattle.sg_core.specs.Live.{Txn}
use Rattle.sg_run.specs.Run.{Run}
use Rattle.sg_run.specs.Numbers.{IsGranted}
use Rattle.sg_store.specs.declared.fault.Needed.{Needed}
use Rattle.sg_store.specs.Ground.{Ground, IsLawful}
use Rattle.sg_store.specs.Engine.{View}
use Rattle.sg_store.specs.Store.{Core, Shows, IsKept, IsUndoing, IsLeaving}
use Rattle.sg_store.specs.Calls.{HasRoom}

-- a store shows some run
pub record ShowsSome (k : Core) (t : Operations) (g : Ground) (v : View g) : Type 0 where
  pub lawful : IsLawful t g
  pub run : Run
  pub shows : Shows t g v k run

-- its engine keeps one
pub record IsRunning (txns : List Txn) (t : Operations) (g : Ground) (v : View g) : Type 0 where
  pub lawful : IsLawful t g
  pub run : Run
  pub kept : IsKept t g v txns run

-- it keeps one of which this transaction has committed, and what that dropped is being freed
pub record IsFreeing (txns : List Txn) (u : ℕ) (t : Operations) (g : Ground) (v : View g) : Type 0 where
  pub lawful : IsLawful t g
  pub run : Run
  pub leaving : IsLeaving t g v txns run u

-- it keeps one, and there is room for an operation of this transaction, which was granted what that touches
pub record HasBegun (txns : List Txn) (u : ℕ) (op : Op) (needs : Needed) (t : Operations) (g : Ground) (v : View g) : Type 0 where
  pub lawful : IsLawful t g
  pub run : Run
  pub room : HasRoom t g v txns run op needs
  pub granted : IsGranted t run u op

-- it keeps one, and the record with this number isn't before the transaction's begin
pub record HasMark (txns : List Txn) (u stop : ℕ) (t : Operations) (g : Ground) (v : View g) : Type 0 where
  pub lawful : IsLawful t g
  pub run : Run
  pub kept : IsKept t g v txns run
  pub within : u ≤ stop

-- it keeps one of which this transaction is being undone as far as the record with this number
pub record IsGoingBack (txns : List Txn) (u stop at : ℕ) (t : Operations) (g : Ground) (v : View g) : Type 0 where
  pub lawful : IsLawful t g
  pub run : Run
  pub undoing : IsUndoing t g v txns run u (stop + 1) at
  pub live : is_live run.so_far.live u ≡ true
  pub within : u ≤ stop

-- it keeps one of which this transaction is being undone
pub record IsTakingBack (txns : List Txn) (u at : ℕ) (t : Operations) (g : Ground) (v : View g) : Type 0 where
  pub lawful : IsLawful t g
  pub run : Run
  pub undoing : IsUndoing t g v txns run u 0 at
  pub live : is_live run.so_far.live u ≡ true
