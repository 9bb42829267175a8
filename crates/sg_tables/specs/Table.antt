-- A table as a walk sees it: its pages in the order of the walk, and its buckets by the names in its directory.
use Rattle.std.specs.Prelude.{◌≡◌, ℕ, ◌<◌, ◌^◌, List, [], ◌∷◌, ◌++◌, slice_get, Option, Some, None}
use Rattle.byteorder.specs.Endian.{little_bytes}
use Rattle.sg_array.specs.Array.{Array}
use Rattle.sg_base.specs.Sheet.{Sheet}
use Rattle.sg_bucket.specs.Bucket.{Bucket, IsBucket}
use Rattle.sg_chains.specs.Parts.{AreThere}
use Rattle.sg_hash.specs.Table.{HashTable, first_page}
use Rattle.sg_linear.specs.declared.address.Address.{Address}
use Rattle.sg_linear.specs.declared.extent.Extent.{Extent}
use Rattle.sg_reach.specs.Parts.{array_pages}

-- the pages of all buckets, and of the whole table
abbrev pub chains : List Bucket → List ℕ
chains [] = []
chains (b ∷ bs) = b.pages ++ chains bs

abbrev pub table_pages : ℕ → HashTable → List ℕ
table_pages root t = root ∷ (array_pages t.directory t.names ++ chains t.buckets)

abbrev pub address : Extent → ℕ → Address
address e i = record { extent = e; bucket = i }

-- the bucket is the one that item i of the directory names, and its entries belong there
pub record IsBucketOf (at : ℕ → Option Sheet) (names : Array) (e : Extent) (i : ℕ) (b : Bucket) : Type 0 where
  pub is : IsBucket at (first_page b) b
  pub named : slice_get names.items i ≡ Some (little_bytes 4 (first_page b))
  pub fit : first_page b < 2 ^ 32
  pub there : AreThere (address e i) b
