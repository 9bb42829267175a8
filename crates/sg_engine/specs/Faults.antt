-- How a call of the engine fails.
use Rattle.std.specs.Prelude.{Bool, true, false}
use Rattle.sg_engine.specs.declared.fault.EngineFault.{EngineFault}
use Rattle.sg_engine.specs.declared.fault.EngineFault.TheVariants.{Disk, LogEnd}

-- whether the disk failed
abbrev pub is_disk : EngineFault → Bool
is_disk Disk = true
is_disk LogEnd = false
