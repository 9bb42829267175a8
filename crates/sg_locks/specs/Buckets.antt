-- In which of 4,096 buckets a name falls, and in which a resource.
use Rattle.std.specs.Prelude.{ℕ, ◌+◌, ◌*◌, ◌%◌, List, map, fold}
use Rattle.sg_serial.specs.Locks.{Hold}
use Rattle.sg_model.specs.Touches.{Region, Resource}
use Rattle.sg_model.specs.Touches.Part.{Kind, Length, Item, Key, Body, Buried}
use Rattle.sg_model.specs.Touches.Region.{Just, EachKey, Everything}
use Rattle.sg_model.specs.Touches.Resource.{Of, Names}

-- one more number goes into a bucket
abbrev pub mixed : ℕ → ℕ → ℕ
mixed bucket n = (bucket * 31 + n) % 4096

-- one number after another
abbrev pub mixed_all : ℕ → List ℕ → ℕ
mixed_all bucket ns = fold mixed bucket ns

-- a name's bucket
abbrev pub bucket_of : List ℕ → ℕ
bucket_of name = mixed_all 0 name

-- the bucket of a region of the object whose name has this one: the last numbers are those of what has none of its own, so that
-- none of the first 4,089 items of an array falls into the bucket of its kind, its length or all of it
abbrev pub region_bucket : ℕ → Region → ℕ
region_bucket bucket (Just (Item i)) = mixed bucket (i % 4096)
region_bucket bucket (Just (Key k)) = mixed_all (mixed bucket 4089) k
region_bucket bucket (Just Kind) = mixed bucket 4090
region_bucket bucket (Just Length) = mixed bucket 4091
region_bucket bucket (Just Body) = mixed bucket 4092
region_bucket bucket (Just (Buried r)) = mixed bucket 4093
region_bucket bucket EachKey = mixed bucket 4094
region_bucket bucket Everything = mixed bucket 4095

-- the bucket of a resource, and that of the name which it is of
abbrev pub resource_bucket : Resource → ℕ
resource_bucket (Of name region) = region_bucket (bucket_of name) region
resource_bucket Names = 0

abbrev pub name_bucket : Resource → ℕ
name_bucket (Of name region) = bucket_of name
name_bucket Names = 0

-- the same of each hold
abbrev pub resource_buckets : List (Hold Resource) → List ℕ
resource_buckets hs = map (λ h. resource_bucket h.touch.what) hs

abbrev pub name_buckets : List (Hold Resource) → List ℕ
name_buckets hs = map (λ h. name_bucket h.touch.what) hs
