-- What a walk over a table says.
use Rattle.std.specs.Prelude.{◌≡◌, ℕ, ◌≤◌, Bool, List, length, slice_get, Option, Some}
use Rattle.std.specs.List.{sum_by}
use Rattle.sg_array.specs.Array.{Array, IsArray}
use Rattle.sg_base.specs.Sheet.{Sheet}
use Rattle.sg_bucket.specs.Bucket.{Bucket, entries_of}
use Rattle.sg_bucket.specs.Entry.{entry_size}
use Rattle.sg_chains.specs.declared.chain.Chain.{Chain}
use Rattle.sg_hash.specs.Table.{HashTable, all_entries}
use Rattle.sg_linear.specs.declared.extent.Extent.{Extent}
use Rattle.sg_reach.specs.Marks.{CanSet, AreSet}
use Rattle.sg_contents.specs.Standing.{IsTable}
use Rattle.sg_tables.specs.Table.{IsBucketOf, chains, table_pages}
use Rattle.sg_tables.specs.declared.buckets.Sums.{Sums}

-- the bucket that item i of the directory names stands there, and its pages may be set
pub record CanReachBucket (at : ℕ → Option Sheet) (directory : ℕ) (e : Extent) (i : ℕ) (taken : List Bool) : Type 0 where
  pub names : Array
  pub stands : IsArray at directory names
  pub size : names.size ≡ 4
  pub bucket : Bucket
  pub of : IsBucketOf at names e i bucket
  pub can : CanSet taken bucket.pages

-- it stands there, and exactly its pages were set
pub record ReachesBucket (at : ℕ → Option Sheet) (names : Array) (e : Extent) (i : ℕ) (old new : List Bool) (c : Chain) : Type 0 where
  pub bucket : Bucket
  pub of : IsBucketOf at names e i bucket
  pub set : AreSet old new bucket.pages
  pub entries : c.entries ≡ length (entries_of bucket.parts)
  pub bytes : c.bytes ≡ sum_by entry_size (entries_of bucket.parts)

-- the same of the first buckets
pub record CanReachBuckets (at : ℕ → Option Sheet) (directory : ℕ) (e : Extent) (count : ℕ) (taken : List Bool) : Type 0 where
  pub names : Array
  pub stands : IsArray at directory names
  pub size : names.size ≡ 4
  pub buckets : List Bucket
  pub many : length buckets ≡ count
  pub each : (i : ℕ) (b : Bucket) → slice_get buckets i ≡ Some b → IsBucketOf at names e i b
  pub can : CanSet taken (chains buckets)

pub record ReachesBuckets (at : ℕ → Option Sheet) (names : Array) (e : Extent) (count : ℕ) (old new : List Bool) (entries bytes : ℕ) : Type 0 where
  pub buckets : List Bucket
  pub many : length buckets ≡ count
  pub each : (i : ℕ) (b : Bucket) → slice_get buckets i ≡ Some b → IsBucketOf at names e i b
  pub set : AreSet old new (chains buckets)
  pub entries_are : entries ≡ length (all_entries buckets)
  pub bytes_are : bytes ≡ sum_by entry_size (all_entries buckets)

-- a table stands there whose pages may be set
pub record CanReachTable (at : ℕ → Option Sheet) (root : ℕ) (taken : List Bool) : Type 0 where
  pub table : HashTable
  pub is : IsTable at root table
  pub can : CanSet taken (table_pages root table)

-- A TABLE STANDS THERE, and exactly its pages were set, each once
pub record ReachesTable (at : ℕ → Option Sheet) (root : ℕ) (old new : List Bool) : Type 0 where
  pub table : HashTable
  pub is : IsTable at root table
  pub set : AreSet old new (table_pages root table)
