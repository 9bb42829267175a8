-- The part of a bucket's entries that stands on one page.
use Rattle.std.specs.Prelude.{◌≡◌, ◌≢◌, ℕ, List, [], ◌∷◌, take, Option, Some, None, IfSome, IsSomeAnd}
use Rattle.sg_base.specs.Page.{cell_in}
use Rattle.sg_base.specs.Sheet.{Sheet}
use Rattle.sg_base.specs.Slots.{Slots}
use Rattle.sg_space.specs.Units.{HasAt}
use Rattle.sg_space.specs.View.{View}
use Rattle.sg_bucket.specs.Entry.{Entry, IsEntryCell, entry_in}
use Rattle.sg_bucket.specs.declared.page.Look.{Look}
use Rattle.sg_bucket.specs.declared.page.Look.TheVariants as look
use Rattle.sg_bucket.specs.declared.page.Match.{Match}
use Rattle.sg_bucket.specs.declared.page.Match.TheVariants as case
use Rattle.sg_bucket.specs.declared.page.Sought.{Sought}
use Rattle.sg_bucket.specs.declared.page.Sought.TheVariants as sought

-- the entries of a page, in the order of its slots
abbrev pub entries_in : Slots → List Entry
entries_in [] = []
entries_in (None ∷ slots) = entries_in slots
entries_in (Some cell ∷ slots) = entry_in cell ∷ entries_in slots

-- each cell holds an entry
abbrev pub AreEntries : Slots → Type 0
AreEntries slots = (slot : ℕ) (cell : List ℕ) → cell_in slots slot ≡ Some cell → IsEntryCell cell

-- a page of entries
pub record IsBucketPage (sheet : Sheet) : Type 0 where
  pub kind : sheet.kind ≡ 6
  pub cells : AreEntries sheet.slots

-- the slot has an entry with this key
pub record HasKeyAt (slots : Slots) (slot : ℕ) (key : List ℕ) : Type 0 where
  pub cell : List ℕ
  pub is : cell_in slots slot ≡ Some cell
  pub entry : IsEntryCell cell
  pub key_is : (entry_in cell).key ≡ key

-- no slot has one
abbrev pub HasNoKey : Slots → List ℕ → Type 0
HasNoKey slots key = (slot : ℕ) (cell : List ℕ) → cell_in slots slot ≡ Some cell → (entry_in cell).key ≢ key

-- what a cell, where there is one, is for who looks for a key
abbrev pub IsMatch : Option (List ℕ) → List ℕ → Match → Type 0
IsMatch o key case.Same = IsSomeAnd o (λ cell. IsEntryCell cell × ((entry_in cell).key ≡ key))
IsMatch o key case.Other = IfSome o (λ cell. (entry_in cell).key ≢ key)
IsMatch o key case.Broken = IsSomeAnd o (λ cell. ¬ IsEntryCell cell)

-- what a search of the slots for a key tells
abbrev pub IsSought : Slots → List ℕ → Sought → Type 0
IsSought slots key (sought.At slot) = HasKeyAt slots slot key
IsSought slots key sought.Nowhere = HasNoKey slots key
IsSought slots key sought.Broken = ¬ AreEntries slots

-- what a look at a page for a key tells: its slot, or the next page
abbrev pub IsLook : List ℕ → Look → Sheet → Type 0
IsLook key (look.Here slot) sheet = HasKeyAt sheet.slots slot key
IsLook key (look.Next next) sheet = HasNoKey sheet.slots key × (sheet.links.0 ≡ next.0)

-- the page is one of entries
abbrev pub CanLookInto : View → ℕ → Type 0
CanLookInto v p = v.Told → HasAt v.space.pages.at p IsBucketPage

-- the slot has an entry
pub record HasValueAt (slot : ℕ) (sheet : Sheet) : Type 0 where
  pub page : IsBucketPage sheet
  pub cell : List ℕ
  pub is : cell_in sheet.slots slot ≡ Some cell

-- the first n bytes of the buffer are the value of the entry in the slot
pub record IsCopied (slot n : ℕ) (into : List ℕ) (sheet : Sheet) : Type 0 where
  pub cell : List ℕ
  pub is : cell_in sheet.slots slot ≡ Some cell
  pub value : (entry_in cell).value ≡ take n into
