-- What the steps of a call on a hash table want and do.
use Rattle.std.specs.Prelude.{◌≡◌, ◌≢◌, ℕ, ◌+◌, ◌<◌, ◌⊎◌, ◌^◌, max, if◌then◌else◌, List, [], ◌∷◌, take, slice_get, Option, Some, None, is_none, Bool, true}
use Rattle.byteorder.specs.Endian.{little_bytes}
use Rattle.sg_array.specs.Array.{Array, IsArray}
use Rattle.sg_array.specs.Array as array
use Rattle.sg_array.specs.Calls.{IsRoomy}
use Rattle.sg_base.specs.Sheet.{Sheet}
use Rattle.sg_bucket.specs.Bucket.{Bucket, IsBucket, OwnsPage}
use Rattle.sg_bucket.specs.Calls.{empty_bucket}
use Rattle.sg_linear.specs.Extent.{shape_of}
use Rattle.sg_space.specs.Owned.{Becomes}
use Rattle.sg_space.specs.Units.{Units, IsTaken}
use Rattle.sg_space.specs.View.{View, Space, Keeps, MayFill}
use Rattle.sg_hash.specs.Table.{HashTable, Numbers, IsInRange, IsTrunk, IsHashTable, IsInBuckets, chain_pages, first_page, root_cell, root_sheet}
use Rattle.sg_hash.specs.Calls.{CanPut, IsEntered, Did}
use Rattle.sg_hash.specs.declared.root.Root.{Root}

-- a root and its directory are there, and have this property
abbrev pub HasTrunk : View → ℕ → (Numbers → HashTable → Type 0) → Type 0
HasTrunk v root P = v.Told → (n : Numbers) × (t : HashTable) × IsTrunk v.space.pages.at root n t × P n t

-- where the space shows a root and its directory, they have this property
abbrev pub IfTrunk : View → ℕ → (Numbers → HashTable → Type 0) → Type 0
IfTrunk v root P = v.Shows → (n : Numbers) (t : HashTable) → IsTrunk v.space.pages.at root n t → P n t

abbrev pub numbers_in : Root → Numbers
numbers_in r = record { shape = shape_of r.extent; entries = r.entries; bytes = r.bytes; peak = r.peak }

-- the bucket of this index begins in this page
pub record IsFirstOf (t : HashTable) (i page : ℕ) : Type 0 where
  pub bucket : Bucket
  pub is : slice_get t.buckets i ≡ Some bucket
  pub first : first_page bucket ≡ page

-- a page is the root of a table
pub record HasRootPage (v : View) (root : ℕ) : Type 0 where
  pub numbers : Numbers
  pub directory : ℕ
  pub page : v.space.pages.at root ≡ Some (root_sheet (root_cell numbers) directory)

-- a page says this now, and no other page has changed
pub record Rewrites (old new : Units Sheet) (p : ℕ) (sheet : Sheet) : Type 0 where
  pub here : new.at p ≡ Some sheet
  pub others : (q : ℕ) → q ≢ p → new.at q ≡ old.at q
  pub free : new.free ≡ old.free
  pub count : new.count ≡ old.count

-- the root has these numbers now, and nothing else has changed
pub record SetsRoot (v w : View) (root : ℕ) (numbers : Numbers) : Type 0 where
  pub keeps : v.Told → Keeps v w
  pub range : IsInRange numbers
  pub pages : v.Told → (n : Numbers) (directory : ℕ) → v.space.pages.at root ≡ Some (root_sheet (root_cell n) directory) → Rewrites v.space.pages w.space.pages root (root_sheet (root_cell numbers) directory)
  pub bands : v.Told → w.space.bands ≡ v.space.bands

-- the bytes of the entry that has gone, if one has
abbrev pub gone_bytes : ℕ → Option ℕ → ℕ
gone_bytes key None = 0
gone_bytes key (Some value) = 4 + (key + value)

-- the numbers after an entry was put: `old` is how long the value was that the key had, if it had one
pub record IsCounted (key value : ℕ) (old : Option ℕ) (split : Bool) (r r' : Numbers) : Type 0 where
  pub shape : r'.shape ≡ r.shape
  pub entries : r'.entries ≡ (if is_none old then r.entries + 1 else r.entries)
  pub bytes : r'.bytes + gone_bytes key old ≡ r.bytes + (4 + (key + value))
  pub peak : r'.peak ≡ (if split then max r.peak r'.bytes else r.peak)

-- the numbers after an entry was removed
pub record IsUncounted (key value : ℕ) (r r' : Numbers) : Type 0 where
  pub shape : r'.shape ≡ r.shape
  pub entries : r'.entries + 1 ≡ r.entries
  pub bytes : r'.bytes + (4 + (key + value)) ≡ r.bytes
  pub peak : r'.peak ≡ r.peak

-- an entry was put and no bucket was split. Where its key was new, the open action may do what it might before
pub record DidEnter (v w : View) (root : ℕ) (key value : List ℕ) (split new : Bool) : Type 0 where
  pub did : Did v w root (CanPut v key split) (IsEntered key value split new)
  pub keeps : new ≡ true → v.Told → Keeps v w

-- A directory that names one bucket, without entries, stands in pages that were free, and no other page and no band has
-- changed.
pub record IsStarted (old new : Space) (directory first : ℕ) (names : Array) : Type 0 where
  pub stands : IsArray new.pages.at directory names
  pub items : names.items ≡ little_bytes 4 first ∷ []
  pub size : names.size ≡ 4
  pub peak : names.peak ≡ 1
  pub bucket : IsBucket new.pages.at first (empty_bucket first)
  pub fit : first < 2 ^ 32
  pub pages : Becomes old.pages new.pages (λ _. ⊥) (λ p. array.Owns directory names p ⊎ (p ≡ first)) 0 4
  pub count : array.page_count names ≡ 3
  pub bands : new.bands ≡ old.bands

pub record Started (v w : View) (directory : ℕ) : Type 0 where
  pub keeps : v.Told → Keeps v w
  pub done : v.Told → (names : Array) × (first : ℕ) × IsStarted v.space w.space directory first names × IsRoomy w directory names × MayFill w first 1018

-- a page was taken, and has this cell and a link to that page
pub record TookRoot (v w : View) (root : ℕ) (numbers : Numbers) (directory : ℕ) : Type 0 where
  pub keeps : v.Told → Keeps v w
  pub pages : v.Told → IsTaken v.space.pages w.space.pages root (λ sheet. sheet ≡ root_sheet (root_cell numbers) directory)
  pub bands : v.Told → w.space.bands ≡ v.space.bands

-- the page is of one of the first buckets
pub record IsInFirst (bs : List Bucket) (count p : ℕ) : Type 0 where
  pub index : ℕ
  pub below : index < count
  pub bucket : Bucket
  pub is : slice_get bs index ≡ Some bucket
  pub owns : OwnsPage bucket p

-- the pages of the first buckets are free now, and no other has changed
pub record AreFreed (old new : Space) (bs : List Bucket) (count : ℕ) : Type 0 where
  pub gone : (p : ℕ) → IsInFirst bs count p → new.pages.at p ≡ None
  pub others : (p : ℕ) → ¬ IsInFirst bs count p → new.pages.at p ≡ old.pages.at p
  pub free : new.pages.free ≡ old.pages.free + chain_pages (take count bs)
  pub all : new.pages.count ≡ old.pages.count
  pub bands : new.bands ≡ old.bands

-- the first buckets of each table that stood there are free
pub record FreesBuckets (v w : View) (root count : ℕ) : Type 0 where
  pub told : v.Told → w.Told
  pub freed : v.Told → (t : HashTable) → IsHashTable v.space.pages.at root t → AreFreed v.space w.space t.buckets count
  pub may_have : v.Told → (t : HashTable) → IsHashTable v.space.pages.at root t → (page slots : ℕ) → ¬ IsInBuckets t.buckets page → v.MayHave page slots → w.MayHave page slots
