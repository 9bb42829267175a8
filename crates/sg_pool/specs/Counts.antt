-- What a call leaves of the disk's counts.
use Rattle.std.specs.Prelude.{◌⊎◌, ◌≤◌, ◌+◌, Bool, true, false}
use Rattle.sg_disk.specs.Disk.{View, FULL}
use Rattle.sg_log.specs.Held.{Tail}
use Rattle.sg_pool.specs.declared.fault.PoolFault.{PoolFault}
use Rattle.sg_pool.specs.declared.fault.PoolFault.TheVariants.{Disk, Damaged, Memory}

-- whether the disk failed
abbrev pub is_disk : PoolFault → Bool
is_disk Disk = true
is_disk (Damaged page) = false
is_disk Memory = false

-- the log grows by no more than is handed to the disk, as far as that is counted
abbrev pub HasGrown : (log log' : Tail) → (v w : View) → Type 0
HasGrown log log' v w = (FULL ≤ w.handed) ⊎ (log'.gate + v.handed ≤ log.gate + w.handed)
