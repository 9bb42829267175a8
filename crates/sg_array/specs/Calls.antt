-- What the calls on an array want and do.
use Rattle.std.specs.Prelude.{◌≡◌, ℕ, ◌+◌, ◌-◌, ◌<◌, ◌≤◌, max, List, [], ◌∷◌, ◌++◌, length, take, slice_get, slice_set, Some, IsTrue}
use Rattle.sg_base.specs.Bytes.{IsBytes}
use Rattle.sg_ops.specs.Steps.{IsLeft}
use Rattle.sg_ops.specs.Table.{Table, record_at, accepts_of, after_of, before_of}
use Rattle.sg_space.specs.Owned.{Becomes}
use Rattle.sg_space.specs.View.{View, Space, Keeps, MayFill}
use Rattle.sg_array.specs.Array.{Array, IsArray, Owns, page_count, per_page}

-- there is an array, and it has this property
abbrev pub HasArray : View → ℕ → (Array → Type 0) → Type 0
HasArray v root P = v.Told → (a : Array) × IsArray v.space.pages.at root a × P a

-- where the space shows an array, it has this property
abbrev pub IfArray : View → ℕ → (Array → Type 0) → Type 0
IfArray v root P = v.Shows → (a : Array) → IsArray v.space.pages.at root a → P a

-- The array is another one now. It has the pages that it had, less what it gave back and more what was free. No other
-- page and no band has changed.
pub record Turns (old new : Space) (root : ℕ) (a a' : Array) : Type 0 where
  pub array : IsArray new.pages.at root a'
  pub pages : Becomes old.pages new.pages (Owns root a) (Owns root a') (page_count a) (page_count a')
  pub bands : new.bands ≡ old.bands

-- what a call does to each array that stood there and of which it could be asked
abbrev pub TurnsIf : View → View → ℕ → (Array → Type 0) → (Array → Array → Type 0) → Type 0
TurnsIf v w root Can Is = v.Told → (a : Array) → IsArray v.space.pages.at root a → Can a → (a' : Array) × Turns v.space w.space root a a' × Is a a'

pub record DidIf (v w : View) (root : ℕ) (Can : Array → Type 0) (Is : Array → Array → Type 0) : Type 0 where
  pub keeps : v.Told → Keeps v w
  pub turns : TurnsIf v w root Can Is

-- what a caller may rely on after a call that leaves fewer bytes in some of these pages
pub record KeepsBut (v w : View) (own : ℕ → Type 0) : Type 0 where
  pub told : v.Told → w.Told
  pub may_take : v.MayTake → w.MayTake
  pub may_have : (page slots : ℕ) → ¬ own page → v.MayHave page slots → w.MayHave page slots

-- the same, of a call that leaves fewer bytes in pages of the array
pub record DidBut (v w : View) (root : ℕ) (Can : Array → Type 0) (Is : Array → Array → Type 0) : Type 0 where
  pub told : v.Told → w.Told
  pub keeps : v.Told → (a : Array) → IsArray v.space.pages.at root a → KeepsBut v w (Owns root a)
  pub turns : TurnsIf v w root Can Is

-- the open action may open each slot that a page of the array may have
pub record IsRoomy (v : View) (root : ℕ) (a : Array) : Type 0 where
  pub first : MayFill v root 139
  pub index : (j p : ℕ) → slice_get a.index j ≡ Some p → MayFill v p 509
  pub leaf : (d p : ℕ) → slice_get a.leaves d ≡ Some p → MayFill v p (per_page a.size)

-- an array without items, in its root alone
abbrev pub empty_array : ℕ → Array
empty_array size = record { size = size; items = []; peak = 0; index = []; leaves = [] }

-- a page that was free is the root of such an array, and no other page and no band has changed
pub record IsMade (old new : Space) (root size : ℕ) : Type 0 where
  pub array : IsArray new.pages.at root (empty_array size)
  pub pages : Becomes old.pages new.pages (λ _. ⊥) (Owns root (empty_array size)) 0 1
  pub bands : new.bands ≡ old.bands

pub record Made (v w : View) (root size : ℕ) : Type 0 where
  pub keeps : v.Told → Keeps v w
  pub done : v.Told → IsMade v.space w.space root size
  -- the root may have as many slots as a page has the bytes for
  pub may_fill : v.Told → MayFill w root 1018

-- an item may be copied into so many bytes
abbrev pub CanGet : (i room : ℕ) (a : Array) → Type 0
CanGet i room a = (i < length a.items) × (a.size ≤ room)

-- an item of this size may stand in the place of one
abbrev pub CanSet : (i size : ℕ) (a : Array) → Type 0
CanSet i size a = (i < length a.items) × (size ≡ a.size)

-- the array has the pages, the size and the peak that it had
pub record SamePages (a a' : Array) : Type 0 where
  pub size : a'.size ≡ a.size
  pub peak : a'.peak ≡ a.peak
  pub index : a'.index ≡ a.index
  pub leaves : a'.leaves ≡ a.leaves

-- one item is another one now
pub record IsSet (i : ℕ) (item : List ℕ) (a a' : Array) : Type 0 where
  pub items : a'.items ≡ slice_set a.items i item
  pub same : SamePages a a'

-- the last item may be taken out and copied into so many bytes
abbrev pub CanPop : (room : ℕ) (a : Array) → Type 0
CanPop room a = (0 < length a.items) × (a.size ≤ room)

-- the last item is gone, and all pages are kept
pub record IsPopped (a a' : Array) : Type 0 where
  pub items : a'.items ≡ take (length a.items - 1) a.items
  pub same : SamePages a a'

-- An item of this size may be pushed. An array that is as long as it ever was may take two pages for it.
pub record CanPush (v : View) (root size : ℕ) (a : Array) : Type 0 where
  pub fits : size ≡ a.size
  pub few : length a.items < 1048576
  pub roomy : IsRoomy v root a
  pub free : length a.items ≡ a.peak → 2 ≤ v.space.pages.free
  pub may_take : length a.items ≡ a.peak → v.MayTake

-- there is one item more, at the end. The peak rose where it had to
pub record IsPushed (w : View) (root : ℕ) (item : List ℕ) (a a' : Array) : Type 0 where
  pub items : a'.items ≡ a.items ++ (item ∷ [])
  pub size : a'.size ≡ a.size
  pub peak : a'.peak ≡ max a.peak (length a.items + 1)
  pub roomy : IsRoomy w root a'

-- the operation accepts the item at this index with this argument
pub record CanApply (t : Table) (i code : ℕ) (arg : List ℕ) (a : Array) : Type 0 where
  pub item : List ℕ
  pub is : slice_get a.items i ≡ Some item
  pub accepted : IsTrue (accepts_of (record_at t code) item arg)

-- the item at this index is what the operation leaves of it
pub record IsApplied (t : Table) (i code : ℕ) (arg : List ℕ) (a a' : Array) : Type 0 where
  pub items : (item : List ℕ) → slice_get a.items i ≡ Some item → a'.items ≡ slice_set a.items i (after_of (record_at t code) item arg)
  pub same : SamePages a a'

-- the item at this index was left by the operation, from one that it accepts with this argument
pub record CanApplyBack (t : Table) (i code : ℕ) (arg : List ℕ) (a : Array) : Type 0 where
  pub item : List ℕ
  pub is : slice_get a.items i ≡ Some item
  pub left : IsLeft (record_at t code) arg item

-- the item at this index is what the operation's undo leaves of it: the one from which it was left
pub record IsAppliedBack (t : Table) (i code : ℕ) (arg : List ℕ) (a a' : Array) : Type 0 where
  pub items : (item : List ℕ) → slice_get a.items i ≡ Some item → a'.items ≡ slice_set a.items i (before_of (record_at t code) item arg)
  pub undone : (item : List ℕ) → IsBytes item → IsTrue (accepts_of (record_at t code) item arg) → slice_get a.items i ≡ Some (after_of (record_at t code) item arg) → a'.items ≡ slice_set a.items i item
  pub same : SamePages a a'

-- the array's pages are free, and no other page and no band has changed
pub record IsGone (old new : Space) (root : ℕ) (a : Array) : Type 0 where
  pub pages : Becomes old.pages new.pages (Owns root a) (λ _. ⊥) (page_count a) 0
  pub bands : new.bands ≡ old.bands

pub record Gone (v w : View) (root : ℕ) : Type 0 where
  pub told : v.Told → w.Told
  pub gone : v.Told → (a : Array) → IsArray v.space.pages.at root a → IsGone v.space w.space root a
  pub may_have : v.Told → (a : Array) → IsArray v.space.pages.at root a → (page slots : ℕ) → ¬ Owns root a page → v.MayHave page slots → w.MayHave page slots
