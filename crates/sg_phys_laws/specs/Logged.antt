-- The engine with one record more, as what it says has it.
use Rattle.std.specs.Prelude.{◌≡◌, ◌≢◌, ◌⊎◌, ℕ, Bool, true, false, List, [], ◌∷◌, ◌++◌, Option, Some, None, is_some, Result, OnOk, ⊤}
use Rattle.sg_disk.specs.Disk.{View, LeavesOnly}
use Rattle.sg_log.specs.Frames.{Numbered}
use Rattle.sg_log.specs.Held.{Tail}
use Rattle.sg_ops.specs.Laws.{IsLawful}
use Rattle.sg_ops.specs.Steps.{uses_table}
use Rattle.sg_ops.specs.Table.{Table, range_at, rendered}
use Rattle.sg_pool.specs.declared.pool.Pool.{Pool}
use Rattle.sg_base.specs.Op.{Op}
use Rattle.sg_record.specs.Changes.{Change, PageChange}
use Rattle.sg_record.specs.Changes.Change.{Page, SegWrite, SegOp}
use Rattle.sg_record.specs.Records.{Record, Says}
use Rattle.sg_record.specs.Records.Says.{Checkpoint}
use Rattle.sg_redo.specs.Places.{op_said, changed_by}
use Rattle.sg_action.specs.States.{State, step_leaf}
use Rattle.sg_engine.specs.Effects.{IsBy}
use Rattle.sg_engine.specs.declared.fault.EngineFault.{EngineFault}
use Rattle.sg_engine.specs.Numbers.{AllUnder}
use Rattle.sg_engine.specs.History.{entry_number}
use Rattle.sg_engine.specs.Engine.{Origin, entries, IsStanding}
use Rattle.sg_engine.specs.Running.{IsEngine, HasGoneOn, IsAllowed}
use Rattle.sg_phys_laws.specs.Known.{IsRegistered}
use Rattle.sg_phys_laws.specs.States.{AllAgree, homes_of, state_of}

-- a record that is no step: a checkpoint, whose estimate has to be allowed
abbrev pub is_no_step : Says → Bool
is_no_step (Checkpoint estimate live) = true
is_no_step _ = false

-- which page a record changes, and how
pub record SaysPage (r : Record) (p : ℕ) (op : Op) : Type 0 where
  pub c : PageChange
  pub says : changed_by r.says ≡ Some (Page c)
  pub page : c.page ≡ p
  pub op_is : op_said c ≡ op

-- an operation on a page fits what the page says, and where it uses registered operations, those that are handed in are the store's
pub record IsPageFor (own given : Table) (x : State) (p : ℕ) (op : Op) : Type 0 where
  pub fits : is_some (step_leaf own op (x.pages p)) ≡ true
  pub means : uses_table op ≡ true → given ≡ own

-- WHAT THE CHANGE OF A RECORD ASKS of the pages, and of the operations that are handed in
abbrev pub IsFor : (own given : Table) → State → Option Change → Type 0
IsFor own given x None = ⊤
IsFor own given x (Some (Page c)) = IsPageFor own given x c.page (op_said c)
IsFor own given x (Some (SegWrite c)) = ⊤
IsFor own given x (Some (SegOp c)) = c.code ≢ 1 → given ≡ own

-- which bytes of which band a record writes: its own, or those that its operation gives
abbrev pub Writes : Table → Option Change → (b at : ℕ) → (bytes : List ℕ) → Type 0
Writes t None b at bytes = ⊥
Writes t (Some (Page c)) b at bytes = ⊥
Writes t (Some (SegWrite c)) b at bytes = (c.band ≡ b) × (c.at ≡ at) × (c.after ≡ bytes)
Writes t (Some (SegOp c)) b at bytes = (c.band ≡ b) × (c.at ≡ at) × (rendered (range_at t c.code) c.arg c.position c.count ≡ bytes)

abbrev pub WritesBytes : Table → Record → (b at : ℕ) → (bytes : List ℕ) → Type 0
WritesBytes t r b at bytes = Writes t (changed_by r.says) b at bytes

-- BETWEEN CALLS: the engine holds these records, and they say what their steps say
pub record IsPhys (t : Table) (o : Origin) (v : View) (log : Tail) (ds ps : List Numbered) (pool : Pool) : Type 0 where
  pub engine : IsEngine o v log ds ps pool
  pub agrees : AllAgree t o ds (ds ++ ps)

-- the record with its number
abbrev pub at_number : ℕ → Record → Numbered
at_number lsn r = record { lsn = lsn; is = r }

-- THE RECORD IS LOGGED with this number, which is above all before it, and its change is made
pub record HasLogged (t : Table) (o : Origin) (w : View) (log : Tail) (ds all : List Numbered) (r : Record) (lsn : ℕ) (pool : Pool) : Type 0 where
  pub gone : HasGoneOn o w log ds (all ++ at_number lsn r ∷ []) pool
  pub agrees : AllAgree t o ds (all ++ at_number lsn r ∷ [])
  pub above : AllUnder entry_number lsn (entries o all)

-- WHAT IS ASKED of a call that appends a record, where the disk tells: that what it changes allows it, and that the operation which it names is
-- registered
pub record IsAsked (own given : Table) (o : Origin) (v : View) (log : Tail) (ds ps : List Numbered) (pool : Pool) (r : Record) : Type 0 where
  pub phys : IsPhys own o v log ds ps pool
  pub by : IsBy own o
  pub lawful : IsLawful own
  pub fits : IsFor own given (state_of (homes_of o (ds ++ ps))) (changed_by r.says)
  pub registered : IsRegistered own r

-- each image of each moment stands, from each redo point that was allowed
abbrev pub Stood : Origin → (v w : View) → Tail → Pool → (ds all : List Numbered) → Type 0
Stood o v w log pool ds all = (k : ℕ) → IsAllowed o v log pool k → LeavesOnly v w (IsStanding o ds all k)

-- each redo point that was allowed still is
abbrev pub StillAllowed : Origin → (v w : View) → (log log' : Tail) → (pool pool' : Pool) → Type 0
StillAllowed o v w log log' pool pool' = (k : ℕ) → IsAllowed o v log pool k → IsAllowed o w log' pool' k

-- A CALL FOR THE RECORD, whatever it answers: at each moment an image stands for some front of the records, or of these with this one more, of
-- this number, whose operation is registered
pub record HasRun (t : Table) (o : Origin) (v w : View) (log log' : Tail) (pool pool' : Pool) (ds all : List Numbered) (r : Record) (lsn : ℕ) (result : Result ℕ EngineFault) : Type 0 where
  pub moments : Stood o v w log pool ds all ⊎ (AllAgree t o ds (all ++ at_number lsn r ∷ []) × Stood o v w log pool ds (all ++ at_number lsn r ∷ []))
  pub allowed : OnOk result (StillAllowed o v w log log' pool pool')
  pub registered : IsRegistered t r

-- A CALL THAT APPENDS NOTHING and answers
pub record HasRested (o : Origin) (v w : View) (log log' : Tail) (pool pool' : Pool) (ds all : List Numbered) : Type 0 where
  pub gone : HasGoneOn o w log' ds all pool'
  pub allowed : StillAllowed o v w log log' pool pool'

-- WHAT IS ASKED where the bytes that a record writes are at hand
pub record IsWrite (own : Table) (o : Origin) (v : View) (log : Tail) (ds ps : List Numbered) (pool : Pool) (r : Record) (b at : ℕ) (bytes : List ℕ) : Type 0 where
  pub phys : IsPhys own o v log ds ps pool
  pub by : IsBy own o
  pub says : WritesBytes own r b at bytes
  pub registered : IsRegistered own r
