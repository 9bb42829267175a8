-- Why a store stops, and what it answers then.
use Rattle.std.specs.Prelude.{Option, Some, Result, Ok, Err}
use Rattle.sg_model.specs.declared.stop.Stop.{Stop}
use Rattle.sg_model.specs.declared.stop.Stop.TheVariants as stops
use Rattle.sg_space.specs.declared.space.SpaceFault.{SpaceFault}
use Rattle.sg_space.specs.declared.space.SpaceFault.TheVariants as spaces
use Rattle.sg_store.specs.declared.fault.Refused.{Refused}
use Rattle.sg_store.specs.declared.fault.Refused.TheVariants as refusals

abbrev pub stop_at : SpaceFault → Stop
stop_at spaces.Disk = stops.Disk
stop_at spaces.LogEnd = stops.LogEnd

abbrev pub refused_at : SpaceFault → Refused
refused_at spaces.Disk = refusals.DiskFault
refused_at spaces.LogEnd = refusals.LogEnd

-- why a store has stopped behind a call that gives nothing but that it was done, if it has
abbrev pub stop_behind : Option Stop → Result (Unit {0}) Refused → Option Stop
stop_behind before (Ok done) = before
stop_behind before (Err refusals.DiskFault) = Some stops.Disk
stop_behind before (Err refusals.LogEnd) = Some stops.LogEnd
stop_behind before (Err other) = before
