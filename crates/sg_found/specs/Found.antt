-- THE ACTION WITHOUT AN END of a log that was found.
use Rattle.std.specs.Prelude.{◌≡◌, ◌⊎◌, ◌≤◌, ℕ, true, List, Option, Some, None, IsSome}
use Rattle.sg_record.specs.Changes.{Change as Changing}
use Rattle.sg_recovery.specs.Chains.{border_of, next_off}
use Rattle.sg_recovery.specs.Log.{Open, tally, is_in}
use Rattle.sg_recovery.specs.Log.Record.{Begin, Change, TopEnd, PhysComp, TopVoid, CompEnd, Save, Commit, End}
use Rattle.sg_recovery.specs.Laws.{Each}
use Rattle.sg_recovery.specs.TakeOff.{IsBefore}
use Rattle.sg_actions.specs.Steps.{Step, Steps, step_at}
use Rattle.sg_actions.specs.TakingOff.{AreLinked}
use Rattle.sg_found.specs.declared.looking.Back.{Back}
use Rattle.sg_found.specs.declared.looking.Back.TheVariants.{Changed, TakenOff, Other}

-- what a way back over an action sees at a step
abbrev pub back_of : Step → Back
back_of (Begin u p) = Other
back_of (Change u p c) = Changed p
back_of (TopEnd u p w n) = Other
back_of (PhysComp u p w c) = TakenOff w
back_of (TopVoid u p w) = Other
back_of (CompEnd u p w) = Other
back_of (Save u p m) = Other
back_of (Commit u p) = Other
back_of (End u p) = Other

abbrev pub back_by : Option Step → Back
back_by None = Other
back_by (Some x) = back_of x

-- the log has a step with this number that is none of an action's changes
pub record IsBorderAt (rs : Steps) (at : ℕ) : Type 0 where
  pub there : IsSome (step_at rs at)
  pub other : back_by (step_at rs at) ≡ Other

-- FROM THIS RECORD ON the way back goes over these open changes, down to the record before their action, which the log has, or the action has none
pub record IsBack (rs : Steps) (base before at : ℕ) (ds : List (Open Changing)) : Type 0 where
  pub linked : AreLinked rs before ds
  pub at_is : at ≡ next_off before ds
  pub bottom : IsBefore base before ⊎ IsBorderAt rs before

-- there is such a way over all open changes, in a log that begins here
pub record HasBack (rs : Steps) (start at : ℕ) : Type 0 where
  pub base : ℕ
  pub begins : base ≡ start
  pub above : Each (λ r. base ≤ r.lsn) rs
  pub before : ℕ
  pub ds : List (Open Changing)
  pub all : ds ≡ (tally rs).opened
  pub back : IsBack rs base before at ds

-- where a take-off goes on, by what is seen at the last record of its action: there, or where that points to
abbrev pub IsFrom : Back → (last at : ℕ) → Type 0
IsFrom (Changed p) last at = at ≡ last
IsFrom (TakenOff w) last at = at ≡ w
IsFrom Other last at = ⊥

-- AN ACTION WITHOUT AN END of this transaction, or of the system: at which record its take-off goes on, and the record before it
pub record IsOpenAt (rs : Steps) (base txn at before : ℕ) : Type 0 where
  pub back : IsBack rs base before at (tally rs).opened
  pub own : is_in txn (tally rs).live ≡ true → before ≡ border_of txn rs
