-- What the steps of a call on an array want and do. Between them an array may have more pages than it wants.
use Rattle.std.specs.Prelude.{◌≡◌, ◌≢◌, ℕ, ◌+◌, ◌*◌, ◌/◌, ◌%◌, ◌<◌, ◌≤◌, ◌^◌, max, List, [], ◌∷◌, ◌++◌, length, take, slice_get, Option, Some, None}
use Rattle.byteorder.specs.Endian.{little_bytes}
use Rattle.sg_base.specs.Page.{bytes_of}
use Rattle.sg_base.specs.Sheet.{Sheet}
use Rattle.sg_base.specs.Slots.{IsFree, with_cell}
use Rattle.sg_space.specs.Owned.{Grows, IsOneOf, AreFreed}
use Rattle.sg_space.specs.Pages.{empty_sheet}
use Rattle.sg_space.specs.Units.{Units, HasAt}
use Rattle.sg_space.specs.View.{View, Space, Keeps, MayFill}
use Rattle.sg_array.specs.Array.{Array, NamesPages, IsBuilt, IsArray, IsRoot, ArePages, Owns, page_count, per_page}
use Rattle.sg_array.specs.Calls.{CanPush, IsRoomy, KeepsBut}

-- what the root's first cell says
pub record Root : Type 0 where
  pub size : ℕ
  pub count : ℕ
  pub peak : ℕ

abbrev pub root_of : Array → Root
root_of a = record { size = a.size; count = length a.items; peak = a.peak }

-- the numbers are in their ranges
pub record IsInRange (r : Root) : Type 0 where
  pub some : 1 ≤ r.size
  pub small : r.size ≤ 256
  pub below_peak : r.count ≤ r.peak
  pub few : r.peak ≤ 1048576

-- a root and index pages are there, and what they name has this property
abbrev pub HasNames : View → ℕ → (Array → Type 0) → Type 0
HasNames v root P = v.Told → (a : Array) × NamesPages v.space.pages.at root a × P a

-- where the space shows a root and index pages, what they name has this property
abbrev pub IfNames : View → ℕ → (Array → Type 0) → Type 0
IfNames v root P = v.Shows → (a : Array) → NamesPages v.space.pages.at root a → P a

-- an array is there, maybe with more pages than it wants, and it has this property
abbrev pub HasBuilt : View → ℕ → (Array → Type 0) → Type 0
HasBuilt v root P = v.Told → (a : Array) × IsBuilt v.space.pages.at root a × P a

abbrev pub IsOfKind : ℕ → Sheet → Type 0
IsOfKind kind sheet = sheet.kind ≡ kind

-- where the item stands
pub record IsPlace (i leaf slot size : ℕ) (a : Array) : Type 0 where
  pub below : i < length a.items
  pub leaf_is : slice_get a.leaves (i / per_page a.size) ≡ Some leaf
  pub slot_is : slot ≡ i % per_page a.size
  pub size_is : size ≡ a.size

-- where the last item stands, and the numbers of the root without it
pub record IsLast (leaf slot size count peak : ℕ) (a : Array) : Type 0 where
  pub place : IsPlace count leaf slot size a
  pub count_is : count + 1 ≡ length a.items
  pub peak_is : peak ≡ a.peak

-- The array is another one now. Its pages are those from before and some that were free, and no other page and no band
-- has changed.
pub record Builds (old new : Space) (root : ℕ) (a a' : Array) : Type 0 where
  pub built : IsBuilt new.pages.at root a'
  pub pages : Grows old.pages new.pages (Owns root a) (Owns root a') (page_count a) (page_count a')
  pub bands : new.bands ≡ old.bands

-- a page says something with this property now, and no other page has changed
pub record Rewrites (old new : Units Sheet) (p : ℕ) (P : Sheet → Type 0) : Type 0 where
  pub here : HasAt new.at p P
  pub others : (q : ℕ) → q ≢ p → new.at q ≡ old.at q
  pub free : new.free ≡ old.free
  pub count : new.count ≡ old.count

-- a root of an array is there
pub record HasRootPage (v : View) (root : ℕ) : Type 0 where
  pub numbers : Root
  pub index : List ℕ
  pub page : HasAt v.space.pages.at root (IsRoot numbers.size numbers.count numbers.peak index)

-- the root has these numbers in its first cell now, and nothing else has changed
pub record SetsRoot (v w : View) (root size count peak : ℕ) : Type 0 where
  pub keeps : v.Told → Keeps v w
  pub pages : v.Told → (r : Root) (index : List ℕ) → HasAt v.space.pages.at root (IsRoot r.size r.count r.peak index) → Rewrites v.space.pages w.space.pages root (IsRoot size count peak index)
  pub bands : v.Told → w.space.bands ≡ v.space.bands

-- a number of a page may be put into the slot
pub record HasRoom (slot : ℕ) (sheet : Sheet) : Type 0 where
  pub free : IsFree sheet.slots slot
  pub room : (q : ℕ) → bytes_of (with_cell sheet.slots slot (little_bytes 4 q)) ≤ 4072

-- a page may be taken, and its number put into the slot of another
pub record CanLinkTo (v : View) (p slot : ℕ) : Type 0 where
  pub page : HasAt v.space.pages.at p (HasRoom slot)
  pub some : 0 < v.space.pages.free
  pub may_take : v.MayTake
  pub may_have : v.MayHave p (slot + 1)

-- a page of this kind was taken, and the slot of another page names it
pub record IsLinked (old new : Space) (kind q p slot : ℕ) : Type 0 where
  pub was_free : old.pages.at q ≡ None
  pub fresh : new.pages.at q ≡ Some (empty_sheet kind)
  pub page : (sheet : Sheet) → old.pages.at p ≡ Some sheet → new.pages.at p ≡ Some (record sheet { slots = with_cell sheet.slots slot (little_bytes 4 q) })
  pub others : (r : ℕ) → r ≢ q → r ≢ p → new.pages.at r ≡ old.pages.at r
  pub free : new.pages.free + 1 ≡ old.pages.free
  pub count : new.pages.count ≡ old.pages.count
  pub bands : new.bands ≡ old.bands

pub record Linked (v w : View) (kind q p slot : ℕ) : Type 0 where
  pub keeps : v.Told → Keeps v w
  pub done : v.Told → IsLinked v.space w.space kind q p slot
  pub may_fill : v.Told → MayFill w q 1018
  pub small : q < 2 ^ 32

-- the array with other pages
abbrev pub with_pages : Array → List ℕ → List ℕ → Array
with_pages a index leaves = record a { index = index; leaves = leaves }

-- an item page may be added behind so many
pub record CanGrow (v : View) (root d : ℕ) (a : Array) : Type 0 where
  pub behind : length a.leaves ≡ d
  pub roomy : IsRoomy v root a
  pub free : 2 ≤ v.space.pages.free
  pub may_take : v.MayTake

-- the array has an index page for one more item page
pub record HasIndexFor (old : Space) (w : View) (root q : ℕ) (a : Array) : Type 0 where
  pub index : List ℕ
  pub builds : Builds old w.space root a (with_pages a index a.leaves)
  pub at : slice_get index (length a.leaves / 509) ≡ Some q
  pub index_most : 509 * length index < length a.leaves + 1 + 509
  pub free : old.pages.free ≤ w.space.pages.free + 1
  pub roomy : IsRoomy w root (with_pages a index a.leaves)

pub record MakesIndex (v w : View) (root d q : ℕ) : Type 0 where
  pub keeps : v.Told → Keeps v w
  pub done : v.Told → (a : Array) → IsArray v.space.pages.at root a → CanGrow v root d a → HasIndexFor v.space w root q a

-- an item may be pushed onto an array of which the root's numbers are these
pub record IsNext (v : View) (root size count peak : ℕ) (a : Array) : Type 0 where
  pub can : CanPush v root size a
  pub count_is : count ≡ length a.items
  pub peak_is : peak ≡ a.peak

-- the array has a page for one more item, and no page more than that wants
pub record HasRoomFor (old : Space) (w : View) (root leaf : ℕ) (a : Array) : Type 0 where
  pub index : List ℕ
  pub leaves : List ℕ
  pub builds : Builds old w.space root a (with_pages a index leaves)
  pub at : slice_get leaves (length a.items / per_page a.size) ≡ Some leaf
  pub index_most : 509 * length index < length leaves + 509
  pub leaf_most : per_page a.size * length leaves < max a.peak (length a.items + 1) + per_page a.size
  pub room : length a.items + 1 ≤ per_page a.size * length leaves
  pub roomy : IsRoomy w root (with_pages a index leaves)

pub record MakesRoom (v w : View) (root leaf size count peak : ℕ) : Type 0 where
  pub keeps : v.Told → Keeps v w
  pub done : v.Told → (a : Array) → IsArray v.space.pages.at root a → IsNext v root size count peak a → HasRoomFor v.space w root leaf a

-- an item may be put into this page, behind the others of an array of which the root's numbers are these
pub record CanPutLast (v : View) (leaf size count peak : ℕ) (a : Array) : Type 0 where
  pub size_is : size ≡ a.size
  pub count_is : count ≡ length a.items
  pub peak_is : peak ≡ a.peak
  pub at : slice_get a.leaves (length a.items / per_page a.size) ≡ Some leaf
  pub room : length a.items + 1 ≤ per_page a.size * length a.leaves
  pub may_fill : MayFill v leaf (per_page a.size)

-- the array with an item more
abbrev pub pushed : List ℕ → Array → Array
pushed item a = record a { items = a.items ++ (item ∷ []); peak = max a.peak (length a.items + 1) }

pub record PutsLast (v w : View) (root leaf size count peak : ℕ) (item : List ℕ) : Type 0 where
  pub keeps : v.Told → Keeps v w
  pub done : v.Told → (a : Array) → IsBuilt v.space.pages.at root a → CanPutLast v leaf size count peak a → Builds v.space w.space root a (pushed item a)

-- the array without its last item
abbrev pub popped : ℕ → Array → Array
popped count a = record a { items = take count a.items }

pub record TakesLast (v w : View) (root leaf slot size count peak : ℕ) : Type 0 where
  pub keeps : v.Told → KeepsBut v w (λ p. p ≡ leaf)
  pub done : v.Told → (a : Array) → IsBuilt v.space.pages.at root a → IsLast leaf slot size count peak a → Builds v.space w.space root a (popped count a)

-- a root names so many index pages, which are there
pub record NamesIndex (pages : ℕ → Option Sheet) (root count : ℕ) (a : Array) : Type 0 where
  pub first : HasAt pages root (IsRoot a.size (length a.items) a.peak a.index)
  pub index : (j p : ℕ) → slice_get a.index j ≡ Some p → HasAt pages p (IsOfKind 3)
  pub are : ArePages a.index
  pub many : length a.index ≡ count

-- Of each array that stood there in this way the first pages of a list are free now, and nothing else has changed.
pub record Frees (v w : View) (Is : Array → Type 0) (list : Array → List ℕ) (done : Array → ℕ) : Type 0 where
  pub told : v.Told → w.Told
  pub pages : v.Told → (a : Array) → Is a → AreFreed v.space.pages w.space.pages (list a) (done a)
  pub bands : v.Told → w.space.bands ≡ v.space.bands
  pub may_have : v.Told → (a : Array) → Is a → (page slots : ℕ) → ¬ IsOneOf (list a) page → v.MayHave page slots → w.MayHave page slots
