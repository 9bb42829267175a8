-- How a telling of the objects of a space ended, as a store is told it.
use Rattle.std.specs.Prelude.{Bool, true, false, Result, Ok, Err}
use Rattle.sg_listing.specs.declared.fault.TellFault as listing
use Rattle.sg_listing.specs.declared.fault.TellFault.TheVariants as faults
use Rattle.sg_store.specs.declared.fault.TellFault.{TellFault}
use Rattle.sg_store.specs.declared.fault.TellFault.TheVariants.{Disk, Memory, Listener}

-- whether it failed for the space
abbrev pub is_tell_failed : {T : Type 0} → Result T listing.TellFault → Bool
is_tell_failed (Ok x) = false
is_tell_failed (Err (faults.Space fault)) = true
is_tell_failed (Err faults.Memory) = false
is_tell_failed (Err faults.Listener) = false

-- a space that is only read fails for the disk alone
abbrev pub told_as : {T : Type 0} → Result T listing.TellFault → Result T TellFault
told_as (Ok x) = Ok x
told_as (Err (faults.Space fault)) = Err Disk
told_as (Err faults.Memory) = Err Memory
told_as (Err faults.Listener) = Err Listener
