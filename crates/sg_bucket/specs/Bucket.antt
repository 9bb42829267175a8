-- A bucket: entries on a chain of pages.
use Rattle.std.specs.Prelude.{◌≡◌, ℕ, ◌+◌, ◌<◌, ◌^◌, List, [], ◌∷◌, ◌++◌, length, take, slice_get, slice_index, slice_index_or, Option, Some, None, option_map}
use Rattle.sg_base.specs.Page.{cell_in}
use Rattle.sg_base.specs.Sheet.{Sheet}
use Rattle.sg_base.specs.Slots.{Slots}
use Rattle.sg_space.specs.Units.{HasAt}
use Rattle.sg_space.specs.View.{View}
use Rattle.sg_bucket.specs.Entry.{Entry, AreOnce}
use Rattle.sg_bucket.specs.Part.{IsBucketPage, entries_in, HasKeyAt, HasNoKey}
use Rattle.sg_bucket.specs.declared.walk.Place.{Place}

-- the numbers of its pages, in the order of the chain, and the slots of each
pub record Bucket : Type 0 where
  pub pages : List ℕ
  pub parts : List Slots

-- its entries
abbrev pub entries_of : List Slots → List Entry
entries_of [] = []
entries_of (slots ∷ parts) = entries_in slots ++ entries_of parts

-- the slots of the page at this place of the chain
abbrev pub part_at : List Slots → ℕ → Slots
part_at parts i = slice_index_or parts i []

-- a page of entries, with these slots, that names the next one
pub record IsPart (next : ℕ) (slots : Slots) (sheet : Sheet) : Type 0 where
  pub page : IsBucketPage sheet
  pub slots_are : sheet.slots ≡ slots
  pub next_is : sheet.links.0 ≡ next

-- The chain stands in these pages, from its first one on: each names the next, and the last names 0.
pub record IsLinked (at : ℕ → Option Sheet) (first : ℕ) (b : Bucket) : Type 0 where
  pub starts : slice_get b.pages 0 ≡ Some first
  pub long : length b.parts ≡ length b.pages
  pub part : (i p : ℕ) → slice_get b.pages i ≡ Some p → HasAt at p (IsPart (slice_index b.pages (i + 1)) (part_at b.parts i))
  -- the pages have numbers of 4 bytes, none behind another has 0, and no two are one
  pub fit : (i p : ℕ) → slice_get b.pages i ≡ Some p → p < 2 ^ 32
  pub behind : (i p : ℕ) → slice_get b.pages (i + 1) ≡ Some p → 0 < p
  pub apart : (i j p : ℕ) → slice_get b.pages i ≡ Some p → slice_get b.pages j ≡ Some p → i ≡ j

-- some slot has an entry
pub record HasEntry (slots : Slots) : Type 0 where
  pub slot : ℕ
  pub cell : List ℕ
  pub is : cell_in slots slot ≡ Some cell

-- The bucket stands in these pages: each key is that of one entry, and each page but the first has an entry.
pub record IsBucket (at : ℕ → Option Sheet) (first : ℕ) (b : Bucket) : Type 0 where
  pub linked : IsLinked at first b
  pub once : AreOnce (entries_of b.parts)
  pub full : (i : ℕ) → i + 1 < length b.pages → HasEntry (part_at b.parts (i + 1))

-- the page is one of the bucket's
abbrev pub OwnsPage : Bucket → ℕ → Type 0
OwnsPage b p = (i : ℕ) × (slice_get b.pages i ≡ Some p)

-- a chain is there, and it has this property
abbrev pub HasLinked : View → ℕ → (Bucket → Type 0) → Type 0
HasLinked v first P = v.Told → (b : Bucket) × IsLinked v.space.pages.at first b × P b

-- where the space shows a chain, it has this property
abbrev pub IfLinked : View → ℕ → (Bucket → Type 0) → Type 0
IfLinked v first P = v.Shows → (b : Bucket) → IsLinked v.space.pages.at first b → P b

-- the same of a bucket
abbrev pub HasBucket : View → ℕ → (Bucket → Type 0) → Type 0
HasBucket v first P = v.Told → (b : Bucket) × IsBucket v.space.pages.at first b × P b

abbrev pub IfBucket : View → ℕ → (Bucket → Type 0) → Type 0
IfBucket v first P = v.Shows → (b : Bucket) → IsBucket v.space.pages.at first b → P b

-- where an entry with a key stands: its page, its slot, and the page before, if there is one
pub record IsPlace (b : Bucket) (key : List ℕ) (place : Place) : Type 0 where
  pub index : ℕ
  pub page : slice_get b.pages index ≡ Some place.page.0
  pub before : (i : ℕ) → index ≡ i + 1 → slice_get b.pages i ≡ Some place.before.0
  pub key_at : HasKeyAt (part_at b.parts index) place.slot key

-- no page has an entry with the key
abbrev pub LacksKey : Bucket → List ℕ → Type 0
LacksKey b key = (i : ℕ) → i < length b.pages → HasNoKey (part_at b.parts i) key

-- what a walk along the chain for a key tells
abbrev pub IsFound : Bucket → List ℕ → Option Place → Type 0
IsFound b key None = LacksKey b key
IsFound b key (Some place) = IsPlace b key place

-- the key's value is the first bytes of the buffer, or there is none
abbrev pub IsAnswer : Option (List ℕ) → Option ℕ → List ℕ → Type 0
IsAnswer value found into = value ≡ option_map (λ n. take n into) found
