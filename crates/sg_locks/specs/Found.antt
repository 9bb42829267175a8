-- The buckets of a resource and of its name.
use Rattle.std.specs.Prelude.{◌≡◌}
use Rattle.sg_model.specs.Touches.{Resource}
use Rattle.sg_locks.specs.declared.bucket.Buckets.{Buckets}
use Rattle.sg_locks.specs.Buckets.{name_bucket, resource_bucket}

-- these are the buckets of the resource and of its name
abbrev pub AreBucketsOf : Buckets → Resource → Type 0
AreBucketsOf buckets r = (buckets.name ≡ name_bucket r) × (buckets.resource ≡ resource_bucket r)
