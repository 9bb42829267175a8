-- What the split of a bucket wants and does.
use Rattle.std.specs.Prelude.{◌≡◌, ℕ, ◌+◌, ◌*◌, ◌<◌, ◌≤◌, length, slice_get, Some, IsSome}
use Rattle.std.specs.List.{sum_by}
use Rattle.sg_array.specs.Calls.{IsRoomy}
use Rattle.sg_bucket.specs.Bucket.{Bucket}
use Rattle.sg_bucket.specs.Entry.{Entry}
use Rattle.sg_linear.specs.Extent.{next_of}
use Rattle.sg_space.specs.View.{View}
use Rattle.sg_hash.specs.Table.{HashTable, entries, byte_count, numbers_of, page_count, value_at}
use Rattle.sg_hash.specs.Steps.{numbers_in}
use Rattle.sg_hash.specs.declared.root.Root.{Root}

-- The next bucket may be split: the root's numbers are these, the entries have more than 2,048 bytes for each bucket, which have been
-- counted in the peak, its chain has at most 8 pages, and 10 are free, which the open action may take.
pub record CanSplit (v : View) (found : Root) (t : HashTable) : Type 0 where
  pub numbers : numbers_in found ≡ numbers_of t
  pub bytes : 2048 * length t.buckets < byte_count (entries t)
  pub raised : byte_count (entries t) ≤ t.peak
  pub short : (b : Bucket) → slice_get t.buckets t.shape.split ≡ Some b → length b.pages ≤ 8
  pub free : 10 ≤ v.space.pages.free
  pub may_take : v.MayTake
  pub names : IsRoomy v t.directory t.names
  pub zero : IsSome (v.space.pages.at 0)

-- one bucket more, and the same entries
pub record IsSplit (t t' : HashTable) : Type 0 where
  pub shape : t'.shape ≡ next_of t.shape
  pub values : value_at t' ≡ value_at t
  pub sums : (f : Entry → ℕ) → sum_by f (entries t') ≡ sum_by f (entries t)
  pub peak : t'.peak ≡ t.peak
  pub few : page_count t' ≤ page_count t + 10

-- A bucket may be split, if that is due: 10 pages are free, which the open action may take, the directory may grow, and the bytes of
-- the entries have been counted in the peak.
pub record CanGrow (v : View) (t : HashTable) : Type 0 where
  pub raised : byte_count (entries t) ≤ t.peak
  pub free : 10 ≤ v.space.pages.free
  pub may_take : v.MayTake
  pub names : IsRoomy v t.directory t.names
  pub zero : IsSome (v.space.pages.at 0)
