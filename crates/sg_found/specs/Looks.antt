-- WHAT SOME LOOKS AT AN ENGINE LEAVE, whether they failed or not.
use Rattle.std.specs.Prelude.{◌≡◌, ℕ, ◌<◌, Bool, true, List, Some, None, Result, OnOk, OnErr, IfErr}
use Rattle.sg_base.specs.Ends.{HasRisen}
use Rattle.sg_base.specs.Sheet.{Sheet, HasBytes}
use Rattle.sg_ops.specs.Table.{Table}
use Rattle.sg_space.specs.declared.space.SpaceFault.{SpaceFault}
use Rattle.sg_space.specs.declared.space.SpaceFault.TheVariants.{Disk}
use Rattle.sg_action.specs.States.{State}
use Rattle.sg_actions.specs.Engine.{EngineSeen}
use Rattle.sg_actions.specs.Images.{Recovering}
use Rattle.sg_actions.specs.Taken.{is_set}
use Rattle.sg_unread.specs.Unread.{LooksOn}

-- it was only looked at; it tells still where they succeeded, no fault is counted then, and one is where they failed
pub record HasLooked {T : Type 0} (recovers : Table → Recovering) (a b : EngineSeen) (m m' : Table → State → Type 0) (result : Result T SpaceFault) : Type 0 where
  pub looks : (t : Table) → LooksOn recovers t a b m m'
  pub tells : OnOk result (a.Told → b.Told)
  pub quiet : OnOk result (b.faults ≡ a.faults)
  pub disk : IfErr result (λ f. f ≡ Disk)
  pub risen : IfErr result (λ f. HasRisen a.faults b.faults)
  pub failed : OnErr result (b.failed ≡ true)

-- a page says something, whose cells are bytes
pub record SaysBytes (x : State) (p : ℕ) : Type 0 where
  pub sheet : Sheet
  pub says : x.pages p ≡ Some sheet
  pub bytes : HasBytes sheet

-- each page below this number that is taken does
abbrev pub AreBytes : List Bool → (count : ℕ) → State → Type 0
AreBytes taken count x = (p : ℕ) → p < count → is_set taken p ≡ true → SaysBytes x p

-- one that is taken says nothing
pub record LacksSome (taken : List Bool) (count : ℕ) (x : State) : Type 0 where
  pub page : ℕ
  pub below : page < count
  pub set : is_set taken page ≡ true
  pub none : x.pages page ≡ None
