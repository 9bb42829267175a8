-- What the calls that divide a bucket's entries want and do, and the one that lists its keys.
use Rattle.std.specs.Prelude.{◌≡◌, ℕ, ◌≤◌, List, length, map, not, IsSome}
use Rattle.std.specs.List.{filter}
use Rattle.sg_linear.specs.Address.{is_at}
use Rattle.sg_linear.specs.declared.address.Address.{Address}
use Rattle.sg_space.specs.Owned.{Becomes}
use Rattle.sg_space.specs.View.{View, Keeps, MayFill}
use Rattle.sg_bucket.specs.Bucket.{Bucket, IsLinked, OwnsPage, entries_of}
use Rattle.sg_bucket.specs.Calls.{IsSound}
use Rattle.sg_bucket.specs.Entry.{Entry}

-- those entries whose key is at the address, in their order
abbrev pub those_at : Address → List Entry → List Entry
those_at there es = filter (λ e. is_at there e.key) es

-- and the others
abbrev pub those_not_at : Address → List Entry → List Entry
those_not_at there es = filter (λ e. not (is_at there e.key)) es

-- the keys of the entries, in their order
abbrev pub keys_of : List Entry → List (List ℕ)
keys_of es = map (λ e. e.key) es

-- A bucket may be branched: as many pages are free as it has, the open action may take them, and page 0, whose number ends a
-- chain, isn't free.
pub record CanBranch (v : View) (b : Bucket) : Type 0 where
  pub sound : IsSound b
  pub free : length b.pages ≤ v.space.pages.free
  pub may_take : v.MayTake
  pub zero : IsSome (v.space.pages.at 0)

-- Another bucket stands on pages that were free, with copies of those entries that are at the address. No other page has changed,
-- so the old bucket stands where it stood.
pub record IsBranch (v w : View) (first new : ℕ) (there : Address) (b b' : Bucket) : Type 0 where
  pub linked : IsLinked w.space.pages.at new b'
  pub entries : entries_of b'.parts ≡ those_at there (entries_of b.parts)
  pub sound : IsSound b'
  pub few : length b'.pages ≤ length b.pages
  pub pages : Becomes v.space.pages w.space.pages (λ _. ⊥) (OwnsPage b') 0 (length b'.pages)
  pub old : IsLinked w.space.pages.at first b
  -- the open action may fill the slots of the new pages
  pub may_fill : (p : ℕ) → OwnsPage b' p → MayFill w p 1018

pub record Branched (v w : View) (first new : ℕ) (there : Address) : Type 0 where
  pub keeps : v.Told → Keeps v w
  pub bands : v.Told → w.space.bands ≡ v.space.bands
  pub bucket : v.Told → (b : Bucket) → IsLinked v.space.pages.at first b → CanBranch v b → (b' : Bucket) × IsBranch v w first new there b b'

-- the bucket has the entries that aren't at the address, on pages that it had
pub record IsPruned (there : Address) (b b' : Bucket) : Type 0 where
  pub entries : entries_of b'.parts ≡ those_not_at there (entries_of b.parts)
  pub sound : IsSound b'
  pub few : length b'.pages ≤ length b.pages
  pub among : (p : ℕ) → OwnsPage b' p → OwnsPage b p
