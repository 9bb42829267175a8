-- A linear hash table: what callers see of it, and how it stands in pages.
use Rattle.std.specs.Prelude.{◌≡◌, ◌≢◌, ℕ, ◌+◌, ◌-◌, ◌<◌, ◌≤◌, ◌⊎◌, ◌^◌, max, List, [], ◌∷◌, ◌++◌, length, slice_get, slice_index, Option, Some, None, option_map}
use Rattle.std.specs.List.{sum_by}
use Rattle.byteorder.specs.Endian.{little_bytes}
use Rattle.sg_base.specs.Sheet.{Sheet}
use Rattle.sg_array.specs.Array.{Array, IsArray, rounded_up, pages_for}
use Rattle.sg_array.specs.Array as array
use Rattle.sg_bucket.specs.Bucket.{Bucket, IsBucket, OwnsPage, entries_of}
use Rattle.sg_bucket.specs.Entry.{Entry, entry_size, value_of}
use Rattle.sg_linear.specs.Extent.{Shape, bucket_at, buckets_of}
use Rattle.sg_linear.specs.Fnv.{fnv_1a}

-- a map from keys to values, in buckets
pub record HashTable : Type 0 where
  -- how far it has grown
  pub shape : Shape
  -- the greatest sum of its entries' bytes that a `put` that may split has left
  pub peak : ℕ
  -- the page of the directory's root, and the directory: an array of the numbers of the buckets' first pages
  pub directory : ℕ
  pub names : Array
  pub buckets : List Bucket

-- the entries of all buckets
abbrev pub all_entries : List Bucket → List Entry
all_entries [] = []
all_entries (b ∷ bs) = entries_of b.parts ++ all_entries bs

abbrev pub entries : HashTable → List Entry
entries t = all_entries t.buckets

-- the bytes of entries: 4 of each, its key and its value
abbrev pub byte_count : List Entry → ℕ
byte_count es = sum_by entry_size es

-- what the table maps a key to
abbrev pub value_at : HashTable → List ℕ → Option (List ℕ)
value_at t = value_of (entries t)

-- the bucket to which a key belongs: by its hash and how far the table has grown
abbrev pub home_of : Shape → List ℕ → ℕ
home_of shape key = bucket_at shape (fnv_1a key)

abbrev pub first_page : Bucket → ℕ
first_page b = slice_index b.pages 0

-- what the root's cell says
pub record Numbers : Type 0 where
  pub shape : Shape
  pub entries : ℕ
  pub bytes : ℕ
  pub peak : ℕ

abbrev pub numbers_of : HashTable → Numbers
numbers_of t = record { shape = t.shape; entries = length (entries t); bytes = byte_count (entries t); peak = t.peak }

-- the numbers are in their ranges
pub record IsInRange (n : Numbers) : Type 0 where
  pub level : n.shape.level ≤ 20
  pub split : n.shape.split < 2 ^ n.shape.level
  pub entries : n.entries < 2 ^ 32
  pub bytes : n.bytes < 2 ^ 64
  pub peak : n.peak < 2 ^ 64

-- the root's cell, of 25 bytes: the level in one, two numbers of 4 and two of 8
abbrev pub root_cell : Numbers → List ℕ
root_cell n = little_bytes 1 n.shape.level ++ (little_bytes 4 n.shape.split ++ (little_bytes 4 n.entries ++ (little_bytes 8 n.bytes ++ little_bytes 8 n.peak)))

-- the root's page: of kind 5, with this cell, and linked to the directory
abbrev pub root_sheet : List ℕ → ℕ → Sheet
root_sheet cell directory = record { kind = 5; links = (directory, 0); slots = Some cell ∷ [] }

-- the cell of the directory that names a bucket
abbrev pub name_of : Option Bucket → Option (List ℕ)
name_of b = option_map (λ (x : Bucket). little_bytes 4 (first_page x)) b

-- The root's page has these numbers, and the directory that it names has the number of each bucket's first page.
pub record IsTrunk (at : ℕ → Option Sheet) (root : ℕ) (n : Numbers) (t : HashTable) : Type 0 where
  pub first : at root ≡ Some (root_sheet (root_cell n) t.directory)
  pub range : IsInRange n
  pub names : IsArray at t.directory t.names
  pub size : t.names.size ≡ 4
  pub named : (i : ℕ) → slice_get t.names.items i ≡ name_of (slice_get t.buckets i)
  pub fit : (i : ℕ) (b : Bucket) → slice_get t.buckets i ≡ Some b → first_page b < 2 ^ 32

-- no page is of two buckets
abbrev pub AreApart : List Bucket → Type 0
AreApart bs = (i j : ℕ) (b c : Bucket) (p : ℕ) → slice_get bs i ≡ Some b → slice_get bs j ≡ Some c → OwnsPage b p → OwnsPage c p → i ≡ j

-- The root, the directory and the buckets that it names stand in these pages. No page is of two of them.
pub record IsBuilt (at : ℕ → Option Sheet) (root : ℕ) (n : Numbers) (t : HashTable) : Type 0 where
  pub trunk : IsTrunk at root n t
  pub bucket : (i : ℕ) (b : Bucket) → slice_get t.buckets i ≡ Some b → IsBucket at (first_page b) b
  pub apart : AreApart t.buckets

-- no bucket has an entry whose key belongs to another
abbrev pub AreHome : Shape → List Bucket → Type 0
AreHome shape bs = (i : ℕ) (b : Bucket) (key : List ℕ) → slice_get bs i ≡ Some b → home_of shape key ≢ i → value_of (entries_of b.parts) key ≡ None

-- how many buckets there may be where the bytes of the entries have been so many: one for each 2,048
abbrev pub most_buckets : ℕ → ℕ
most_buckets peak = max 1 (rounded_up peak 2048)

-- The table stands in these pages: the root counts its entries and their bytes, each key is that of one entry, in
-- the bucket where it belongs, and there are as many buckets as its shape says, which are no more than its peak allows.
pub record IsHashTable (at : ℕ → Option Sheet) (root : ℕ) (t : HashTable) : Type 0 where
  pub built : IsBuilt at root (numbers_of t) t
  pub many : length t.buckets ≡ buckets_of t.shape
  pub home : AreHome t.shape t.buckets
  pub grown : length t.buckets ≤ most_buckets t.peak
  pub longest : t.names.peak ≡ length t.names.items

-- the page is of a bucket
pub record IsInBuckets (bs : List Bucket) (p : ℕ) : Type 0 where
  pub index : ℕ
  pub bucket : Bucket
  pub is : slice_get bs index ≡ Some bucket
  pub owns : OwnsPage bucket p

-- the page is the table's: its root, one of the directory or one of a bucket
abbrev pub Owns : (root : ℕ) (t : HashTable) (p : ℕ) → Type 0
Owns root t p = (p ≡ root) ⊎ (array.Owns t.directory t.names p ⊎ IsInBuckets t.buckets p)

-- how many pages buckets have
abbrev pub chain_pages : List Bucket → ℕ
chain_pages bs = sum_by (λ (b : Bucket). length b.pages) bs

-- how many pages the table has
abbrev pub page_count : HashTable → ℕ
page_count t = 1 + array.page_count t.names + chain_pages t.buckets

-- how many pages a table may have, by its peak and the number of its entries
abbrev pub most_pages : (peak count : ℕ) → ℕ
most_pages peak count = (2 + pages_for 4 (most_buckets peak) + most_buckets peak + count) - 1
