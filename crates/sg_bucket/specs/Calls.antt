-- What the calls on a bucket want and do.
use Rattle.std.specs.Prelude.{◌≡◌, ℕ, ◌+◌, ◌<◌, ◌≤◌, ◌^◌, List, [], ◌∷◌, length, Option, Some, None, option_map}
use Rattle.sg_space.specs.Owned.{Becomes}
use Rattle.sg_space.specs.Units.{IsTaken}
use Rattle.sg_space.specs.View.{View, Keeps, MayFill}
use Rattle.sg_bucket.specs.Bucket.{Bucket, IsBucket, IsLinked, OwnsPage, entries_of}
use Rattle.sg_bucket.specs.Entry.{Entry, AreOnce, AreExchanged, value_of, with_value}
use Rattle.sg_bucket.specs.Steps.{CanAdd, Did, IsFull}

-- each key is that of one entry, and each page but the first has an entry
pub record IsSound (b : Bucket) : Type 0 where
  pub once : AreOnce (entries_of b.parts)
  pub full : IsFull b

-- an entry with this key and a value of this length has gone, or none
abbrev pub IsGone : List ℕ → Option ℕ → List Entry → Type 0
IsGone key None gone = gone ≡ []
IsGone key (Some size) gone = (value : List ℕ) × (gone ≡ record { key = key; value = value } ∷ []) × (length value ≡ size)

-- what has gone, where these entries have come
pub record LosesEntry (key : List ℕ) (old : Option ℕ) (come : List Entry) (b b' : Bucket) : Type 0 where
  pub gone : List Entry
  pub gone_is : IsGone key old gone
  pub exchanged : AreExchanged (entries_of b.parts) (entries_of b'.parts) gone come

-- The bucket maps the key to another value, or to none, and all other keys to what it did. `old` is how long the key's value
-- was, where it had one.
pub record IsMapped (key : List ℕ) (value : Option (List ℕ)) (come : List Entry) (old : Option ℕ) (b b' : Bucket) : Type 0 where
  pub sound : IsSound b'
  pub values : value_of (entries_of b'.parts) ≡ with_value (value_of (entries_of b.parts)) key value
  pub had : option_map (λ (x : List ℕ). length x) (value_of (entries_of b.parts) key) ≡ old
  pub entries : LosesEntry key old come b b'
  -- at most one page more, and none where nothing came
  pub few : length b'.pages ≤ length b.pages + length come

-- the entry is there now
abbrev pub IsPut : List ℕ → List ℕ → Option ℕ → Bucket → Bucket → Type 0
IsPut key value = IsMapped key (Some value) (record { key = key; value = value } ∷ [])

-- no entry has the key now
abbrev pub IsDeleted : List ℕ → Option ℕ → Bucket → Bucket → Type 0
IsDeleted key = IsMapped key None []

-- an entry may be put
pub record CanPutEntry (v : View) (b : Bucket) : Type 0 where
  pub sound : IsSound b
  pub add : CanAdd v b

pub record DidPut (v w : View) (first : ℕ) (key value : List ℕ) (old : Option ℕ) : Type 0 where
  pub did : Did v w first (CanPutEntry v) (IsPut key value old)
  -- where the key was new, the open action may do what it might before
  pub keeps : old ≡ None → v.Told → Keeps v w

-- a bucket without entries, on one page
abbrev pub empty_bucket : ℕ → Bucket
empty_bucket p = record { pages = p ∷ []; parts = [] ∷ [] }

-- a page that was free is such a bucket, and nothing else has changed
pub record Made (v w : View) (p : ℕ) : Type 0 where
  pub keeps : Keeps v w
  pub bucket : v.Told → IsBucket w.space.pages.at p (empty_bucket p)
  pub pages : v.Told → IsTaken v.space.pages w.space.pages p (λ _. Unit {0})
  pub bands : v.Told → w.space.bands ≡ v.space.bands
  pub may_fill : v.Told → MayFill w p 1018
  pub small : p < 2 ^ 32

-- the bucket's pages are free, and no other has changed
pub record Gone (v w : View) (first : ℕ) : Type 0 where
  pub told : v.Told → w.Told
  pub pages : v.Told → (b : Bucket) → IsLinked v.space.pages.at first b → Becomes v.space.pages w.space.pages (OwnsPage b) (λ _. ⊥) (length b.pages) 0
  pub bands : v.Told → w.space.bands ≡ v.space.bands
  pub may_have : v.Told → (b : Bucket) → IsLinked v.space.pages.at first b → (page slots : ℕ) → ¬ OwnsPage b page → v.MayHave page slots → w.MayHave page slots
