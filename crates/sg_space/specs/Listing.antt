-- How a call on a space fails that takes memory too.
use Rattle.std.specs.Prelude.{◌≡◌, ◌≤◌, Result, IfErr, OnOk}
use Rattle.sg_base.specs.Ends.{HasRisen}
use Rattle.sg_space.specs.View.{View}
use Rattle.sg_space.specs.declared.space.ListFault.{ListFault}
use Rattle.sg_space.specs.declared.space.ListFault.TheVariants.{Space as InSpace}
use Rattle.sg_space.specs.declared.space.SpaceFault.TheVariants.{Disk, LogEnd}

-- no call makes the count of faults less, and none fails without a cause, but for want of memory
pub record CountsList {T : Type 0} (old new : View) (result : Result T ListFault) : Type 0 where
  -- a space that isn't told is never told later
  pub told : new.Told → old.Told
  pub later : old.faults ≤ new.faults
  pub quiet : OnOk result (new.faults ≡ old.faults)
  pub disk : IfErr result (λ e. e ≡ InSpace Disk → HasRisen old.faults new.faults)
  pub log_end : IfErr result (λ e. e ≡ InSpace LogEnd → new.IsNearEnd)

-- a call that writes no record, so that none can pass the end of the log
pub record WritesNoneList {T : Type 0} (old new : View) (result : Result T ListFault) : Type 0 where
  pub no_end : IfErr result (λ e. e ≡ InSpace LogEnd → ⊥)
  pub records : new.records ≡ old.records
