-- STATES OF WHICH THE SAME IS READ.
use Rattle.std.specs.Prelude.{◌≡◌, ℕ, ◌<◌, ◌≤◌, [], map, Option, Some, None, option_map}
use Rattle.sg_base.specs.Sheet.{Sheet, seen}
use Rattle.sg_base.specs.Slots.{Slots}
use Rattle.sg_action.specs.States.{State, leaf_count}
use Rattle.sg_bucket.specs.Bucket.{Bucket}
use Rattle.sg_hash.specs.Table.{HashTable}
use Rattle.sg_space.specs.View.{Space}
use Rattle.sg_contents.specs.Standing.{Body, Contents, IsContents, AreInRange, IsReachedPage, IsReachedBand, map_bands}
use Rattle.sg_contents.specs.Standing.Body.{AnArray, ATable, ABlob}
use Rattle.sg_contents.specs.Limits.{limit}

-- Pages of which nobody can tell apart what they said from what they say now, among some: their kinds, links and cells are the
-- same, and none has more slots than its limit if it had no more before
pub record AreAlikeOn (limit : ℕ → ℕ) (own : ℕ → Type 0) (at at' : ℕ → Option Sheet) : Type 0 where
  pub seen_same : (p : ℕ) → own p → option_map seen (at' p) ≡ option_map seen (at p)
  pub slots : (p : ℕ) → own p → leaf_count (at p) ≤ limit p → leaf_count (at' p) ≤ limit p

-- the space of so many pages and bands that says what a state does
abbrev pub space_of : (pages bands : ℕ) → State → Space
space_of pages bands x = record { pages = record { at = x.pages; free = 0; count = pages }; bands = record { at = λ b. Some (x.bands b); free = 0; count = bands } }

-- WHAT A STATE READS AS, of so many pages and bands
pub record ReadsAs (pages bands : ℕ) (x : State) (s : Contents) : Type 0 where
  pub contents : IsContents (space_of pages bands x) s
  pub range : AreInRange pages bands s

-- A state that can't be told from another one by who reads these contents: what they reach looks the same. All else may be
-- anything, as are pages that were free when an action began and that its take-off leaves.
pub record IsAlike (s : Contents) (x y : State) : Type 0 where
  pub pages : AreAlikeOn (limit s x.pages) (IsReachedPage s) x.pages y.pages
  pub bands : (b : ℕ) → IsReachedBand s b → y.bands b ≡ x.bands b

-- Buckets know the slots of their pages, with the empty ones. With those of other pages they are other buckets, of the same
-- entries

abbrev pub slots_at : Option Sheet → Slots
slots_at None = []
slots_at (Some sheet) = sheet.slots

abbrev pub with_parts : (ℕ → Option Sheet) → Bucket → Bucket
with_parts at b = record { pages = b.pages; parts = map (λ p. slots_at (at p)) b.pages }

abbrev pub with_buckets : (ℕ → Option Sheet) → HashTable → HashTable
with_buckets at t = record t { buckets = map (with_parts at) t.buckets }

abbrev pub body_in : (ℕ → Option Sheet) → Body → Body
body_in at (AnArray a) = AnArray a
body_in at (ATable t) = ATable (with_buckets at t)
body_in at (ABlob b) = ABlob b

abbrev pub contents_in : (ℕ → Option Sheet) → Contents → Contents
contents_in at s = record { catalog = s.catalog; body = λ root. body_in at (s.body root) }

-- what a space has of pages and bands is what a state says of them
pub record IsPartOf (space : Space) (x : State) : Type 0 where
  pub pages : (p : ℕ) → (space.pages.at p ≡ None → ⊥) → x.pages p ≡ space.pages.at p
  pub bands : (b : ℕ) → (space.bands.at b ≡ None → ⊥) → Some (x.bands b) ≡ space.bands.at b

-- and it has all that these contents reach, and the map's bands
pub record HasReached (space : Space) (x : State) (s : Contents) : Type 0 where
  pub pages : (p : ℕ) → IsReachedPage s p → space.pages.at p ≡ x.pages p
  pub bands : (b : ℕ) → IsReachedBand s b → space.bands.at b ≡ Some (x.bands b)
  pub map : (b : ℕ) → b < map_bands space → space.bands.at b ≡ None → ⊥
