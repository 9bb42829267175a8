-- What the calls on a hash table want and do.
use Rattle.std.specs.Prelude.{◌≡◌, ◌≢◌, ℕ, ◌+◌, ◌*◌, ◌<◌, ◌≤◌, max, if◌then◌else◌, List, [], length, slice_get, Some, None, IsSome, is_none, is_some, Bool, true}
use Rattle.std.specs.List.{sum_by}
use Rattle.sg_array.specs.Calls.{IsRoomy}
use Rattle.sg_bucket.specs.Bucket.{Bucket}
use Rattle.sg_bucket.specs.Entry.{Entry, with_value}
use Rattle.sg_linear.specs.Extent.{next_of}
use Rattle.sg_space.specs.Owned.{Becomes}
use Rattle.sg_space.specs.View.{View, Space, Keeps, MayFill}
use Rattle.sg_hash.specs.Table.{HashTable, IsHashTable, IsInBuckets, Owns, entries, byte_count, value_at, page_count}

-- there is a table, and it has this property
abbrev pub HasHashTable : View → ℕ → (HashTable → Type 0) → Type 0
HasHashTable v root P = v.Told → (t : HashTable) × IsHashTable v.space.pages.at root t × P t

-- where the space shows a table, it has this property
abbrev pub IfHashTable : View → ℕ → (HashTable → Type 0) → Type 0
IfHashTable v root P = v.Shows → (t : HashTable) → IsHashTable v.space.pages.at root t → P t

-- The table is another one now. It has the pages that it had, less what it gave back and more what was free. No other
-- page and no band has changed.
pub record Turns (old new : Space) (root : ℕ) (t t' : HashTable) : Type 0 where
  pub table : IsHashTable new.pages.at root t'
  pub pages : Becomes old.pages new.pages (Owns root t) (Owns root t') (page_count t) (page_count t')
  pub bands : new.bands ≡ old.bands

-- what a call does to each table that stood there and of which it could be asked
pub record Did (v w : View) (root : ℕ) (Can : HashTable → Type 0) (Is : HashTable → HashTable → Type 0) : Type 0 where
  pub told : v.Told → w.Told
  pub turns : v.Told → (t : HashTable) → IsHashTable v.space.pages.at root t → Can t → (t' : HashTable) × Turns v.space w.space root t t' × Is t t'
  -- other taken pages may have the slots that they might have before
  pub may_have : v.Told → (t : HashTable) → IsHashTable v.space.pages.at root t → Can t → (page slots : ℕ) → ¬ Owns root t page → v.space.pages.at page ≢ None → v.MayHave page slots → w.MayHave page slots

-- the open action may open each slot that a page of the directory or of a bucket may have
pub record MayGrow (v : View) (t : HashTable) : Type 0 where
  pub names : IsRoomy v t.directory t.names
  pub buckets : (p : ℕ) → IsInBuckets t.buckets p → MayFill v p 1018

-- An entry may be put. One page is free, and 11 where the key is new and a bucket may be split.
pub record CanPut (v : View) (key : List ℕ) (split : Bool) (t : HashTable) : Type 0 where
  pub free : 1 ≤ v.space.pages.free
  pub free_split : split ≡ true → value_at t key ≡ None → 11 ≤ v.space.pages.free
  pub may_take : v.MayTake
  pub may_grow : MayGrow v t
  -- page 0, whose number ends a chain, isn't free
  pub zero : IsSome (v.space.pages.at 0)

-- The key is mapped to this value, and all others are mapped as before. No bucket has been split.
pub record IsEntered (key value : List ℕ) (split new : Bool) (t t' : HashTable) : Type 0 where
  pub values : value_at t' ≡ with_value (value_at t) key (Some value)
  pub was_new : new ≡ is_none (value_at t key)
  pub shape : t'.shape ≡ t.shape
  pub peak : t'.peak ≡ (if split then max t.peak (byte_count (entries t')) else t.peak)
  pub few : page_count t' ≤ page_count t + 1
  pub directory : t'.directory ≡ t.directory
  pub names : t'.names ≡ t.names

-- A bucket is to be split: the entries have more than 2,048 bytes for each bucket, the chain of the bucket that is next has
-- at most 8 pages, and there are fewer than 2^20 buckets.
pub record IsDue (t : HashTable) : Type 0 where
  pub bytes : 2048 * length t.buckets < byte_count (entries t)
  pub short : (b : Bucket) → slice_get t.buckets t.shape.split ≡ Some b → length b.pages ≤ 8
  pub room : t.shape.level < 20

-- one bucket has been split, where that was due. The entries are the same
pub record IsGrown (t t' : HashTable) : Type 0 where
  pub due : IsDue t → t'.shape ≡ next_of t.shape
  pub undue : ¬ IsDue t → t' ≡ t
  pub values : value_at t' ≡ value_at t
  pub sums : (f : Entry → ℕ) → sum_by f (entries t') ≡ sum_by f (entries t)
  pub peak : t'.peak ≡ t.peak
  pub few : page_count t' ≤ page_count t + 10

-- The key is mapped to this value, and all others are mapped as before. Where the key was new and a bucket may be split, one
-- was, if that was due then.
pub record IsPut (key value : List ℕ) (split new : Bool) (t t' : HashTable) : Type 0 where
  pub values : value_at t' ≡ with_value (value_at t) key (Some value)
  pub was_new : new ≡ is_none (value_at t key)
  pub peak : t'.peak ≡ (if split then max t.peak (byte_count (entries t')) else t.peak)
  pub before_split : HashTable
  pub entered : IsEntered key value split new t before_split
  pub grown : split ≡ true → new ≡ true → IsGrown before_split t'
  pub whole : (split ≡ true → new ≡ true → ⊥) → t' ≡ before_split
  pub few : page_count t' ≤ page_count t + 11

-- The key is mapped to nothing, and all others are mapped as before. The table stays as split as it was.
pub record IsDeleted (key : List ℕ) (was : Bool) (t t' : HashTable) : Type 0 where
  pub values : value_at t' ≡ with_value (value_at t) key None
  pub was_there : was ≡ is_some (value_at t key)
  pub shape : t'.shape ≡ t.shape
  pub peak : t'.peak ≡ t.peak
  pub few : page_count t' ≤ page_count t

-- a table without entries, of one bucket, stands in pages that were free, and no other page and no band has changed
pub record IsMade (old new : Space) (root : ℕ) (t : HashTable) : Type 0 where
  pub table : IsHashTable new.pages.at root t
  pub none : entries t ≡ []
  pub shape : t.shape ≡ record { level = 0; split = 0 }
  pub peak : t.peak ≡ 0
  pub pages : Becomes old.pages new.pages (λ _. ⊥) (Owns root t) 0 5
  pub count : page_count t ≡ 5
  pub bands : new.bands ≡ old.bands

-- five pages are free for it, and the open action may take them
pub record HasFive (v : View) : Type 0 where
  pub free : 5 ≤ v.space.pages.free
  pub may_take : v.MayTake

pub record Made (v w : View) (root : ℕ) : Type 0 where
  pub keeps : v.Told → Keeps v w
  pub done : v.Told → (t : HashTable) × IsMade v.space w.space root t × MayGrow w t

-- the table's pages are free, and no other page and no band has changed
pub record IsGone (old new : Space) (root : ℕ) (t : HashTable) : Type 0 where
  pub pages : Becomes old.pages new.pages (Owns root t) (λ _. ⊥) (page_count t) 0
  pub bands : new.bands ≡ old.bands

pub record Gone (v w : View) (root : ℕ) : Type 0 where
  pub told : v.Told → w.Told
  pub gone : v.Told → (t : HashTable) → IsHashTable v.space.pages.at root t → IsGone v.space w.space root t
  pub may_have : v.Told → (t : HashTable) → IsHashTable v.space.pages.at root t → (page slots : ℕ) → ¬ Owns root t page → v.MayHave page slots → w.MayHave page slots
