-- No fault of the disk is passed over.
use Rattle.std.proofs.Common.{◌≡◌, Bool, true, false}
use Rattle.std.specs.Bool.{OnFalse}
use Rattle.sg_disk.specs.Disk.{View}
use Rattle.sg_pool.specs.Counts as pool
use Rattle.sg_pool.specs.declared.fault.PoolFault.{PoolFault}
use Rattle.sg_pool.specs.declared.fault.PoolFault.TheVariants as faults
use Rattle.sg_find.specs.Faults.{is_disk}
use Rattle.sg_open.specs.Refusals.{of_pool}

-- the refusal of a pool
pub pool_heeds : (fault : PoolFault) (v w : View) → OnFalse (pool.is_disk fault) (w.faults ≡ v.faults) → OnFalse (is_disk (of_pool fault)) (w.faults ≡ v.faults)
pool_heeds faults.Disk v w h = tt
pool_heeds faults.Memory v w h = h
pool_heeds (faults.Damaged page) v w h = h
