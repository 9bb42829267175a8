-- What a take-off has appended, whether its calls failed or not.
use Rattle.std.specs.Prelude.{◌≡◌, ◌⊎◌, ℕ, ◌+◌, ◌≤◌, true, false, List, [], ◌∷◌, ◌++◌, Result, IfErr, OnOk, OnErr}
use Rattle.sg_base.specs.Ends.{HasRisen}
use Rattle.sg_disk.specs.Accounts.{Accounts}
use Rattle.sg_ops.specs.Table.{Table}
use Rattle.sg_record.specs.Changes.{Change as Changing}
use Rattle.sg_recovery.specs.Formed.{IsLog}
use Rattle.sg_recovery.specs.Log.{Open, tally, open_up_to}
use Rattle.sg_recovery.specs.Log.Record.{PhysComp, TopVoid}
use Rattle.sg_space.specs.declared.space.SpaceFault.{SpaceFault}
use Rattle.sg_space.specs.declared.space.SpaceFault.TheVariants.{Disk, LogEnd}
use Rattle.sg_actions.specs.Changes.{comp_of}
use Rattle.sg_actions.specs.Engine.{EngineSeen, EngineView, Moments, IsNearEnd}
use Rattle.sg_actions.specs.Images.{Grows, Recovering}
use Rattle.sg_actions.specs.Steps.{Step, Steps}

-- a step takes the last open change off, by its inverse
pub record TakesLast (rs : Steps) (txn : ℕ) (x : Step) : Type 0 where
  pub previous : ℕ
  pub undo_next : ℕ
  pub d : Open Changing
  pub ds : List (Open Changing)
  pub opened : (tally rs).opened ≡ d ∷ ds
  pub left : open_up_to txn undo_next (d ∷ ds) ≡ ds
  pub is : x ≡ PhysComp txn previous undo_next (comp_of d.change)

-- or no change is open any more, and the action is over
pub record IsOver (rs : Steps) (txn : ℕ) (x : Step) : Type 0 where
  pub previous : ℕ
  pub undo_next : ℕ
  pub none : (tally rs).opened ≡ []
  pub is : x ≡ TopVoid txn previous undo_next

-- EACH of these steps TAKES A CHANGE OFF, or ends the action, behind those before it
abbrev pub AreOffSteps : (txn : ℕ) → (made log : Steps) → Type 0
AreOffSteps txn [] log = Unit {0}
AreOffSteps txn (r ∷ made) log = (TakesLast (made ++ log) txn r.is ⊎ IsOver (made ++ log) txn r.is) × AreOffSteps txn made log

-- an engine that hasn't failed has appended these
pub record HasOff (a b : EngineView) (made : Steps) : Type 0 where
  pub told : b.Told
  pub base : b.base ≡ a.base
  pub first : b.first ≡ a.first
  pub steps : b.steps ≡ made ++ a.steps
  pub durable : Grows a.durable b.durable

-- WHAT HAS BEEN TAKEN OFF from one moment to a later one: these steps were appended, or one of them was to be by the call that failed; the log is
-- formed with them, and each image of each moment has a front of it, with all that was durable at first
pub record WentOff (recovers : Recovering) (t : Table) (txn : ℕ) (a b : EngineView) : Type 0 where
  pub made : Steps
  pub are : AreOffSteps txn made a.steps
  pub formed : IsLog a.base (made ++ a.steps)
  pub moments : Moments recovers t a b (made ++ a.steps)
  pub gone : b.failed ≡ false → HasOff a b made

-- On any engine: no call makes the count of faults or the log's end less, none fails without a cause, and after a failure it is told no more. One that has failed calls the disk no more
pub record OffCounts {T : Type 0} (e e' : EngineSeen) (breaks breaks' : ℕ) (result : Result T SpaceFault) : Type 0 where
  pub told : e'.Told → e.Told
  pub tells : OnOk result (e.Told → e'.Told)
  pub later : e.faults + breaks ≤ e'.faults + breaks'
  pub quiet : OnOk result (e'.faults + breaks' ≡ e.faults + breaks)
  pub disk : IfErr result (λ f. f ≡ Disk → HasRisen (e.faults + breaks) (e'.faults + breaks'))
  pub accounts : Accounts (λ f. f ≡ Disk) e.Told e.disk e'.disk e.gate e'.gate result
  pub log_end : IfErr result (λ f. f ≡ LogEnd → IsNearEnd e')
  pub tail : e.tail ≤ e'.tail
  pub silent : OnErr result (e'.Told → ⊥)
  pub stops : e.failed ≡ true → (e'.failed ≡ true) × (e'.disk ≡ e.disk)
