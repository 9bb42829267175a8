-- What the steps of a change of a bucket want and do. Between them a key may be that of two entries, and a page without entries
-- may stand in the chain.
use Rattle.std.specs.Prelude.{◌≡◌, ◌≢◌, ℕ, ◌+◌, ◌<◌, ◌≤◌, List, [], ◌∷◌, ◌++◌, length, slice_get, slice_index, slice_set, Option, Some, None, IsSome}
use Rattle.std.specs.List.{remove}
use Rattle.sg_base.specs.Page.{cell_in, bytes_of}
use Rattle.sg_base.specs.Sheet.{Sheet}
use Rattle.sg_base.specs.Slots.{Slots, IsFree, with_cell}
use Rattle.sg_base.specs.declared.numbers.PageNo.{PageNo}
use Rattle.sg_space.specs.Owned.{Becomes}
use Rattle.sg_space.specs.View.{View, Space, Keeps, MayFill}
use Rattle.sg_bucket.specs.Bucket.{Bucket, IsLinked, OwnsPage, entries_of, part_at, HasEntry}
use Rattle.sg_bucket.specs.Entry.{entry_in, AreExchanged}
use Rattle.sg_bucket.specs.declared.room.Held.{Held}
use Rattle.sg_bucket.specs.declared.room.Room.{Room}
use Rattle.sg_bucket.specs.declared.room.Room.TheVariants as room
use Rattle.sg_bucket.specs.declared.walk.Place.{Place}

-- a cell of this size may be put there
pub record CanPut (size slot : ℕ) (slots : Slots) : Type 0 where
  pub free : IsFree slots slot
  pub fits : (cell : List ℕ) → length cell ≡ size → bytes_of (with_cell slots slot cell) ≤ 4072

-- what a look at a page for room tells: a slot, or the next page
abbrev pub IsRoom : ℕ → Room → Sheet → Type 0
IsRoom size (room.At slot) sheet = CanPut size slot sheet.slots
IsRoom size (room.Full next) sheet = sheet.links.0 ≡ next.0

-- what a look at a slot tells: how long the value is, and how long a cell may be there
pub record IsHeld (slot : ℕ) (held : Held) (sheet : Sheet) : Type 0 where
  pub cell : List ℕ
  pub is : cell_in sheet.slots slot ≡ Some cell
  pub value : length (entry_in cell).value ≡ held.value
  pub most : bytes_of sheet.slots + held.most ≤ 4072 + length cell

-- no slot has an entry
abbrev pub IsBare : Slots → Type 0
IsBare slots = (slot : ℕ) (cell : List ℕ) → cell_in slots slot ≡ Some cell → ⊥

-- what a look at a page tells that may have no entry any more: it has one, or none and this is the next page
abbrev pub IsEmptied : Option PageNo → Sheet → Type 0
IsEmptied None sheet = HasEntry sheet.slots
IsEmptied (Some next) sheet = IsBare sheet.slots × (sheet.links.0 ≡ next.0)

-- each page but the first has an entry
abbrev pub IsFull : Bucket → Type 0
IsFull b = (i : ℕ) → i + 1 < length b.pages → HasEntry (part_at b.parts (i + 1))

-- The chain is another one now. Its pages are those from before, some that were free, and without some that are free now. No other page has changed.
pub record Turns (old new : Space) (first : ℕ) (b b' : Bucket) : Type 0 where
  pub linked : IsLinked new.pages.at first b'
  pub pages : Becomes old.pages new.pages (OwnsPage b) (OwnsPage b') (length b.pages) (length b'.pages)
  pub bands : new.bands ≡ old.bands

-- what a step does to each chain that stood there and of which it could be asked
pub record Did (v w : View) (first : ℕ) (Can : Bucket → Type 0) (Is : Bucket → Bucket → Type 0) : Type 0 where
  pub told : v.Told → w.Told
  pub turns : v.Told → (b : Bucket) → IsLinked v.space.pages.at first b → Can b → (b' : Bucket) × Turns v.space w.space first b b' × Is b b'
  -- other taken pages may have the slots that they might have before
  pub may_have : v.Told → (b : Bucket) → IsLinked v.space.pages.at first b → Can b → (page slots : ℕ) → ¬ OwnsPage b page → v.space.pages.at page ≢ None → v.MayHave page slots → w.MayHave page slots

-- the same of a step after which the open action may do what it might before
pub record DidKeep (v w : View) (first : ℕ) (Can : Bucket → Type 0) (Is : Bucket → Bucket → Type 0) : Type 0 where
  pub keeps : v.Told → Keeps v w
  pub turns : v.Told → (b : Bucket) → IsLinked v.space.pages.at first b → Can b → (b' : Bucket) × Turns v.space w.space first b b' × Is b b'

-- a cell may be added: a page is free, the open action may take it and open slots of the chain's pages, and page 0, whose number
-- ends a chain, isn't free
pub record CanAdd (v : View) (b : Bucket) : Type 0 where
  pub free : 0 < v.space.pages.free
  pub may_take : v.MayTake
  pub may_fill : (p : ℕ) → OwnsPage b p → MayFill v p 1018
  pub zero : IsSome (v.space.pages.at 0)

-- a cell stands in a slot of a page, and this is the page before, if there is one
pub record IsStanding (b : Bucket) (place : Place) (cell : List ℕ) : Type 0 where
  pub index : ℕ
  pub page : slice_get b.pages index ≡ Some place.page.0
  pub before : (i : ℕ) → index ≡ i + 1 → slice_get b.pages i ≡ Some place.before.0
  pub is : cell_in (part_at b.parts index) place.slot ≡ Some cell

-- a cell more. Those from before stand where they stood
pub record IsAdded (cell : List ℕ) (b b' : Bucket) : Type 0 where
  pub exchanged : AreExchanged (entries_of b.parts) (entries_of b'.parts) [] (entry_in cell ∷ [])
  pub full : IsFull b → IsFull b'
  pub stays : (place : Place) (other : List ℕ) → IsStanding b place other → IsStanding b' place other
  pub few : length b'.pages ≤ length b.pages + 1

-- the page is the last one
pub record IsLast (last : ℕ) (b : Bucket) : Type 0 where
  pub index : ℕ
  pub page : slice_get b.pages index ≡ Some last
  pub ends : length b.pages ≡ index + 1

pub record CanAppend (v : View) (last : ℕ) (b : Bucket) : Type 0 where
  pub add : CanAdd v b
  pub ending : IsLast last b

-- a cell may be put into this slot of a page
pub record CanPutAt (v : View) (size page slot : ℕ) (b : Bucket) : Type 0 where
  pub may_fill : (p : ℕ) → OwnsPage b p → MayFill v p 1018
  pub index : ℕ
  pub there : slice_get b.pages index ≡ Some page
  pub room : CanPut size slot (part_at b.parts index)

-- some cell stands there, and another of this size may stand there
pub record CanSet (size : ℕ) (place : Place) (b : Bucket) : Type 0 where
  pub was : List ℕ
  pub stands : IsStanding b place was
  pub fits : bytes_of (part_at b.parts stands.index) + size ≤ 4072 + length was

-- another cell in place of one
pub record IsSet (cell : List ℕ) (place : Place) (b b' : Bucket) : Type 0 where
  pub exchanged : (was : List ℕ) → IsStanding b place was → AreExchanged (entries_of b.parts) (entries_of b'.parts) (entry_in was ∷ []) (entry_in cell ∷ [])
  pub full : IsFull b → IsFull b'
  pub few : length b'.pages ≤ length b.pages

-- some cell stands there
pub record HasCellAt (place : Place) (b : Bucket) : Type 0 where
  pub was : List ℕ
  pub stands : IsStanding b place was

-- the chain with other slots on one of its pages
abbrev pub with_part : ℕ → Slots → Bucket → Bucket
with_part i slots b = record b { parts = slice_set b.parts i slots }

-- the chain with one page more, behind the last, that has this one cell
abbrev pub with_page : ℕ → List ℕ → Bucket → Bucket
with_page page cell b = record { pages = b.pages ++ (page ∷ []); parts = b.parts ++ ((Some cell ∷ []) ∷ []) }

-- the cell stands in this slot of a page now
pub record IsPutAt (cell : List ℕ) (page slot : ℕ) (b b' : Bucket) : Type 0 where
  pub added : IsAdded cell b b'
  pub is : (i : ℕ) → slice_get b.pages i ≡ Some page → b' ≡ with_part i (with_cell (part_at b.parts i) slot cell) b

-- the cell stands on a page of its own now, of which the open action may fill the slots
pub record IsAppended (w : View) (cell : List ℕ) (page : ℕ) (b b' : Bucket) : Type 0 where
  pub added : IsAdded cell b b'
  pub is : b' ≡ with_page page cell b
  pub may_fill : MayFill w page 1018

-- the slot is empty now
pub record IsRemoved (place : Place) (b b' : Bucket) : Type 0 where
  pub is : (was : List ℕ) → (s : IsStanding b place was) → b' ≡ with_part s.index (slice_set (part_at b.parts s.index) place.slot None) b

-- a cell less. All pages but the first that had an entry have one
pub record IsTakenOut (place : Place) (b b' : Bucket) : Type 0 where
  pub exchanged : (was : List ℕ) → IsStanding b place was → AreExchanged (entries_of b.parts) (entries_of b'.parts) (entry_in was ∷ []) []
  pub full : IsFull b → IsFull b'
  pub few : length b'.pages ≤ length b.pages

-- a page without entries stands between these two
pub record CanCut (before page next : ℕ) (b : Bucket) : Type 0 where
  pub index : ℕ
  pub before_is : slice_get b.pages index ≡ Some before
  pub page_is : slice_get b.pages (index + 1) ≡ Some page
  pub next_is : slice_index b.pages (index + 1 + 1) ≡ next
  pub bare : IsBare (part_at b.parts (index + 1))

-- the chain without the page at this place
abbrev pub without : ℕ → Bucket → Bucket
without i b = record { pages = remove b.pages i; parts = remove b.parts i }

pub record IsCut (page : ℕ) (b b' : Bucket) : Type 0 where
  pub is : (i : ℕ) → slice_get b.pages i ≡ Some page → b' ≡ without i b

-- the cell at the place may be replaced by one that may have to go elsewhere
pub record CanReplace (v : View) (place : Place) (b : Bucket) : Type 0 where
  pub add : CanAdd v b
  pub has : HasCellAt place b

-- another cell, somewhere in the chain, in place of one whose value was so long
pub record IsReplaced (cell : List ℕ) (place : Place) (size : ℕ) (b b' : Bucket) : Type 0 where
  pub exchanged : (was : List ℕ) → IsStanding b place was → AreExchanged (entries_of b.parts) (entries_of b'.parts) (entry_in was ∷ []) (entry_in cell ∷ [])
  pub value : (was : List ℕ) → IsStanding b place was → length (entry_in was).value ≡ size
  pub full : IsFull b → IsFull b'
  pub few : length b'.pages ≤ length b.pages + 1
