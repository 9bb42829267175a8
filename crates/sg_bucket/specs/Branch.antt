-- What the steps want and do that copy entries to a new bucket.
use Rattle.std.specs.Prelude.{◌≡◌, ℕ, ◌+◌, ◌-◌, ◌≤◌, List, [], ◌∷◌, ◌++◌, length, take, Bool, true, false, Option, Some, None, IfSome, IsSome, IsSomeAnd}
use Rattle.sg_base.specs.Page.{cell_in, bytes_of}
use Rattle.sg_base.specs.Sheet.{Sheet}
use Rattle.sg_base.specs.Slots.{Slots}
use Rattle.sg_linear.specs.Address.{is_at}
use Rattle.sg_linear.specs.declared.address.Address.{Address}
use Rattle.sg_space.specs.Units.{HasAt}
use Rattle.sg_space.specs.View.{View, MayFill}
use Rattle.sg_bucket.specs.Bucket.{Bucket, OwnsPage, entries_of, part_at}
use Rattle.sg_bucket.specs.Division.{those_at}
use Rattle.sg_bucket.specs.Entry.{IsEntryCell, entry_in}
use Rattle.sg_bucket.specs.Part.{IsBucketPage, entries_in}
use Rattle.sg_bucket.specs.Steps.{IsLast, IsFull}
use Rattle.sg_bucket.specs.declared.branching.Copied.{Copied}
use Rattle.sg_bucket.specs.declared.branching.Tail.{Tail}
use Rattle.sg_bucket.specs.declared.pick.Outline.{Outline}
use Rattle.sg_bucket.specs.declared.pick.Pick.{Pick}
use Rattle.sg_bucket.specs.declared.pick.Pick.TheVariants as choice

-- whether the entry in a cell is at the address
abbrev pub cell_at : Address → List ℕ → Bool
cell_at there cell = is_at there (entry_in cell).key

-- what a cell, where there is one, is for who looks for entries at an address
abbrev pub IsPick : Option (List ℕ) → Address → Pick → Type 0
IsPick o there choice.There = IsSomeAnd o (λ cell. IsEntryCell cell × (cell_at there cell ≡ true))
IsPick o there choice.Elsewhere = IfSome o (λ cell. cell_at there cell ≡ false)
IsPick o there choice.Broken = IsSomeAnd o (λ cell. ¬ IsEntryCell cell)

-- what a page says beside its entries
pub record IsOutline (seen : Outline) (sheet : Sheet) : Type 0 where
  pub slots : length sheet.slots ≡ seen.slots
  pub next : sheet.links.0 ≡ seen.next.0
  pub fits : bytes_of sheet.slots ≤ 4072

-- the slot has an entry at the address
pub record HasThere (there : Address) (slot : ℕ) (cell : List ℕ) (sheet : Sheet) : Type 0 where
  pub is : cell_in sheet.slots slot ≡ Some cell
  pub at : cell_at there cell ≡ true

-- the slot has none
abbrev pub LacksThere : Address → ℕ → Sheet → Type 0
LacksThere there slot sheet = (cell : List ℕ) → cell_in sheet.slots slot ≡ Some cell → cell_at there cell ≡ false

-- the first n bytes of the buffer are the cell of an entry at the address, or the slot has none
abbrev pub IsPicked : Address → ℕ → Option ℕ → List ℕ → Sheet → Type 0
IsPicked there slot None into sheet = LacksThere there slot sheet
IsPicked there slot (Some n) into sheet = HasThere there slot (take n into) sheet

abbrev pub IsTold : Address → ℕ → Bool → Sheet → Type 0
IsTold there slot false sheet = LacksThere there slot sheet
IsTold there slot true sheet = (cell : List ℕ) × HasThere there slot cell sheet

-- the slots of the last page
abbrev pub last_part : Bucket → Slots
last_part b = part_at b.parts (length b.pages - 1)

-- how many bytes stand on the page that the next cell goes to
abbrev pub used : Option ℕ → Bucket → ℕ
used None b = 0
used (Some slot) b = bytes_of (last_part b)

-- how many slots of that page are full
abbrev pub filled : Option ℕ → ℕ
filled None = 0
filled (Some slot) = slot

-- how many pages that cell takes
abbrev pub taken : Option ℕ → ℕ
taken None = 1
taken (Some slot) = 0

-- the bucket goes on there: on its last page, of which all slots so far are full, or on another
pub record Ends (tail : Tail) (b : Bucket) : Type 0 where
  pub last : IsLast tail.page.0 b
  pub slot : IfSome tail.slot (λ n. n ≡ length (last_part b))

-- what the open action may do with the bucket's pages and with free ones
pub record MayGrow (v : View) (b : Bucket) : Type 0 where
  pub may_take : v.MayTake
  pub may_fill : (p : ℕ) → OwnsPage b p → MayFill v p 1018
  pub zero : IsSome (v.space.pages.at 0)

-- a cell of this size may be put behind the others
pub record CanExtend (v : View) (tail : Tail) (size : ℕ) (b : Bucket) : Type 0 where
  pub ends : Ends tail b
  pub grow : MayGrow v b
  pub free : taken tail.slot ≤ v.space.pages.free
  pub fits : used tail.slot b + (4 + size) ≤ 4072

-- an entry more, behind the others
pub record IsExtended (w : View) (cell : List ℕ) (tail end : Tail) (b b' : Bucket) : Type 0 where
  pub entries : entries_of b'.parts ≡ entries_of b.parts ++ (entry_in cell ∷ [])
  pub ends : Ends end b'
  pub goes_on : IsSome end.slot
  pub used_is : used end.slot b' ≡ used tail.slot b + (4 + length cell)
  pub full : IsFull b → IsFull b'
  pub few : length b'.pages ≡ length b.pages + taken tail.slot
  pub more : (p : ℕ) → OwnsPage b p → OwnsPage b' p
  pub may_fill : (p : ℕ) → OwnsPage b' p → MayFill w p 1018

-- the entries of a page that is none of the bucket's may be put behind the others
pub record CanCopy (v : View) (tail : Tail) (from : ℕ) (b : Bucket) : Type 0 where
  pub ends : Ends tail b
  pub grow : MayGrow v b
  pub free : taken tail.slot ≤ v.space.pages.free
  pub bare : used tail.slot b ≡ 0
  pub page : HasAt v.space.pages.at from IsBucketPage
  pub other : ¬ OwnsPage b from

-- those of the entries in these slots that are at the address, behind the others, on one page
pub record AreCopied (w : View) (there : Address) (slots : Slots) (tail : Tail) (last : ℕ) (b b' : Bucket) : Type 0 where
  pub entries : entries_of b'.parts ≡ entries_of b.parts ++ those_at there (entries_in slots)
  pub last_is : IsLast last b'
  pub full : IsFull b → IsFull b'
  pub few : length b'.pages ≤ length b.pages + taken tail.slot
  pub more : (p : ℕ) → OwnsPage b p → OwnsPage b' p
  pub may_fill : (p : ℕ) → OwnsPage b' p → MayFill w p 1018

-- the same of the slots of a page
abbrev pub IsPartCopied : View → View → Address → ℕ → Tail → Copied → Bucket → Bucket → Type 0
IsPartCopied v w there from tail copied b b' = (sheet : Sheet) → v.space.pages.at from ≡ Some sheet → AreCopied w there sheet.slots tail copied.last.0 b b'
