-- The keys of one bucket.
use Rattle.std.specs.Prelude.{ℕ, List, Bool, ◌==◌}
use Rattle.sg_linear.specs.Extent.{bucket_at, shape_of}
use Rattle.sg_linear.specs.Fnv.{fnv_1a}
use Rattle.sg_linear.specs.declared.address.Address.{Address}

-- whether a key belongs to the bucket: its hash has this bucket in a table of this extent
unfoldable pub is_at : Address → List ℕ → Bool
is_at a key = bucket_at (shape_of a.extent) (fnv_1a key) == a.bucket
