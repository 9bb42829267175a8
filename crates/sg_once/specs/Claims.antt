-- WHAT STANDS IN PAGES AND BANDS stands there once, and whether it does is decided.
use Rattle.std.specs.Prelude.{◌≡◌, ℕ, ◌<◌, ◌⊎◌, List, Option, Some, slice_get}
use Rattle.sg_array.specs.Array.{Array, IsArray}
use Rattle.sg_base.specs.Sheet.{Sheet}
use Rattle.sg_blob.specs.Blob.{Blob, IsBlob}
use Rattle.sg_bucket.specs.Bucket.{Bucket, IsBucket}
use Rattle.sg_catalog.specs.Catalog.{Catalog, IsCatalog}

-- it holds, or it can't
abbrev pub Dec : Type 0 → Type 0
Dec A = A ⊎ (A → ⊥)

-- ONCE. One array at most stands at a root, by all that pages say,
abbrev pub ArrayIsOnce : Type 0
ArrayIsOnce = (pages : ℕ → Option Sheet) (root : ℕ) (a b : Array) → IsArray pages root a → IsArray pages root b → a ≡ b

-- one blob, by all that pages and bands say,
abbrev pub BlobIsOnce : Type 0
BlobIsOnce = (pages : ℕ → Option Sheet) (bands : ℕ → Option (List ℕ)) (root : ℕ) (b c : Blob) → IsBlob pages bands root b → IsBlob pages bands root c → b ≡ c

-- one bucket at a first page,
abbrev pub BucketIsOnce : Type 0
BucketIsOnce = (pages : ℕ → Option Sheet) (first : ℕ) (b c : Bucket) → IsBucket pages first b → IsBucket pages first c → b ≡ c

-- and one catalogue
abbrev pub CatalogIsOnce : Type 0
CatalogIsOnce = (pages : ℕ → Option Sheet) (c d : Catalog) → IsCatalog pages c → IsCatalog pages d → c ≡ d

-- DECIDED. Whether some array stands at a root is decided, and which one,
abbrev pub ArrayIsDecided : Type 0
ArrayIsDecided = (pages : ℕ → Option Sheet) (root : ℕ) → Dec ((a : Array) × IsArray pages root a)

-- some blob,
abbrev pub BlobIsDecided : Type 0
BlobIsDecided = (pages : ℕ → Option Sheet) (bands : ℕ → Option (List ℕ)) (root : ℕ) → Dec ((b : Blob) × IsBlob pages bands root b)

-- some bucket on pages of which there are so many: without a number of pages nothing ends a search along a chain,
pub record BucketBelow (n : ℕ) (at : ℕ → Option Sheet) (first : ℕ) (b : Bucket) : Type 0 where
  pub bucket : IsBucket at first b
  pub low : (i p : ℕ) → slice_get b.pages i ≡ Some p → p < n

abbrev pub BucketIsDecided : Type 0
BucketIsDecided = (n : ℕ) (pages : ℕ → Option Sheet) (first : ℕ) → Dec ((b : Bucket) × BucketBelow n pages first b)

-- and some catalogue on such pages
pub record CatalogBelow (n : ℕ) (at : ℕ → Option Sheet) (c : Catalog) : Type 0 where
  pub catalog : IsCatalog at c
  pub low : (i p : ℕ) → slice_get c.pages i ≡ Some p → p < n

abbrev pub CatalogIsDecided : Type 0
CatalogIsDecided = (n : ℕ) (pages : ℕ → Option Sheet) → Dec ((c : Catalog) × CatalogBelow n pages c)
