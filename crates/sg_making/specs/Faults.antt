-- How making a store is refused.
use Rattle.std.specs.Prelude.{Bool, true, false}
use Rattle.sg_making.specs.declared.making.InitFault.{InitFault}
use Rattle.sg_making.specs.declared.making.InitFault.TheVariants.{Disk, Exists, BadGeometry}

-- whether the disk failed
abbrev pub is_disk : InitFault → Bool
is_disk Disk = true
is_disk Exists = false
is_disk BadGeometry = false
