-- Which status stands for which fault.
use Rattle.std.specs.Prelude.{Option, Some, None, Result, Ok, Err}
use Rattle.sg_base.specs.declared.ends.Failed.{Failed}
use Rattle.sg_model.specs.declared.stop.Stop.{Stop}
use Rattle.sg_model.specs.declared.stop.Stop.TheVariants as stops
use Rattle.sg_command.specs.declared.file.SizesFault as code_sizes
use Rattle.sg_command.specs.declared.file.SizesFault.TheVariants as sizes
use Rattle.sg_script.specs.declared.script.RunEnd as code_end
use Rattle.sg_script.specs.declared.script.RunEnd.TheVariants as ends
use Rattle.sg_store.specs.declared.fault.CheckRefused.{CheckRefused}
use Rattle.sg_store.specs.declared.fault.CheckRefused.TheVariants as checks
use Rattle.sg_store.specs.declared.fault.Refused.{Refused}
use Rattle.sg_store.specs.declared.fault.Untold.{Untold}
use Rattle.sg_store.specs.declared.fault.Untold.TheVariants as untold
use Rattle.sg_commands.specs.declared.opens.OpenRefused as code_refused
use Rattle.sg_commands.specs.declared.opens.OpenRefused.TheVariants as refusals
use Rattle.sg_commands.specs.declared.opens.InitRefused as code_init
use Rattle.sg_commands.specs.declared.opens.InitRefused.TheVariants as inits
use Rattle.sg_commands.specs.declared.status.Status as code_status
use Rattle.sg_commands.specs.declared.status.Status.TheVariants as statuses

-- of a run that didn't begin
abbrev pub status_of_refusal : code_refused.OpenRefused → code_status.Status
status_of_refusal refusals.DiskFault = statuses.Disk
status_of_refusal refusals.Memory = statuses.Memory
status_of_refusal (refusals.Damaged area at) = statuses.Damaged area at
status_of_refusal refusals.NotAStore = statuses.NotAStore
status_of_refusal (refusals.UnknownOperation code) = statuses.UnknownOperation code
status_of_refusal refusals.LogEnd = statuses.LogEnd

-- of a store that wasn't made
abbrev pub status_of_making : code_init.InitRefused → code_status.Status
status_of_making inits.DiskFault = statuses.Disk
status_of_making inits.Exists = statuses.Exists

-- of a new store for which there are no sizes
abbrev pub status_of_sizes : code_sizes.SizesFault → code_status.Status
status_of_sizes sizes.Read = statuses.Read
status_of_sizes sizes.Bad = statuses.BadGeometry
status_of_sizes sizes.Memory = statuses.Memory

-- of a script that ended so
abbrev pub status_of_end : code_end.RunEnd → code_status.Status
status_of_end ends.Done = statuses.Done
status_of_end ends.Read = statuses.Read
status_of_end ends.Write = statuses.Write
status_of_end ends.TooLong = statuses.TooLong

-- of a store that has stopped for this reason, or hasn't
abbrev pub status_of_stop : Option Stop → code_status.Status
status_of_stop None = statuses.Done
status_of_stop (Some stops.Disk) = statuses.Disk
status_of_stop (Some stops.LogEnd) = statuses.LogEnd

-- of two, the first that is a fault
abbrev pub first_fault : code_status.Status → code_status.Status → code_status.Status
first_fault statuses.Done later = later
first_fault status later = status

-- Of a run: that of the store's stop, also where it stopped behind the script's end, and else that of the script's end
abbrev pub status_of : code_end.RunEnd → Option Stop → code_status.Status
status_of end stop = first_fault (status_of_stop stop) (status_of_end end)

-- of bytes that were written, or weren't
abbrev pub status_of_writing : Result (Unit {0}) Failed → code_status.Status
status_of_writing (Ok done) = statuses.Done
status_of_writing (Err failed) = statuses.Write

-- of a store's objects that were written, or weren't
abbrev pub status_of_telling : Result (Unit {0}) Untold → code_status.Status
status_of_telling (Ok done) = statuses.Done
status_of_telling (Err untold.DiskFault) = statuses.Disk
status_of_telling (Err untold.Stopped) = statuses.Disk
status_of_telling (Err untold.Memory) = statuses.Memory
status_of_telling (Err untold.Listener) = statuses.Write

-- of a store that wasn't checked
abbrev pub status_of_check : CheckRefused → code_status.Status
status_of_check checks.DiskFault = statuses.Disk
status_of_check checks.Stopped = statuses.Disk
status_of_check checks.Memory = statuses.Memory

-- of what was asked of a store that was closed then: a fault of the disk, by which that fails, is never passed over
abbrev pub status_of_closing : Result (Unit {0}) Refused → code_status.Status → code_status.Status
status_of_closing (Ok done) status = status
status_of_closing (Err why) status = statuses.Disk
