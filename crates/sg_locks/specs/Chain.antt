-- The chains that lead from hold to hold.
use Rattle.std.specs.Prelude.{◌<◌, Bool, true, ◌==◌}
use Rattle.sg_serial.specs.Locks.{Hold}
use Rattle.sg_model.specs.Touches.{Resource}
use Rattle.sg_locks.specs.declared.table.Chain.{Chain}
use Rattle.sg_locks.specs.declared.table.Chain.TheVariants as chains
use Rattle.sg_locks.specs.Buckets.{resource_bucket, name_bucket}

-- the chain leads to this hold
abbrev pub is_on : Chain → Hold Resource → Bool
is_on (chains.Resource bucket) h = resource_bucket h.touch.what == bucket
is_on (chains.Name bucket) h = name_bucket h.touch.what == bucket
is_on chains.Every h = true

-- its bucket is one
abbrev pub IsChain : Chain → Type 0
IsChain (chains.Resource bucket) = bucket < 4096
IsChain (chains.Name bucket) = bucket < 4096
IsChain chains.Every = Unit {0}
