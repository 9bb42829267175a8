-- How opening is refused.
use Rattle.std.specs.Prelude.{Bool, true, false}
use Rattle.sg_find.specs.declared.fault.OpenFault.{OpenFault}
use Rattle.sg_find.specs.declared.fault.OpenFault.TheVariants.{Disk, Memory, NotAStore, Damaged, UnknownOperation}

-- whether the disk failed
abbrev pub is_disk : OpenFault → Bool
is_disk Disk = true
is_disk Memory = false
is_disk NotAStore = false
is_disk (Damaged area at) = false
is_disk (UnknownOperation code) = false
