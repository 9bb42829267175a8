-- What is read of a page's cells, and a page with one cell.
use Rattle.std.specs.Prelude.{◌≡◌, ℕ, ◌<◌, ◌≤◌, ◌^◌, List, [], ◌∷◌, length, Some}
use Rattle.sg_base.specs.Page.{cell_in}
use Rattle.sg_base.specs.Sheet.{Sheet}
use Rattle.sg_space.specs.Units.{HasAt, IsTaken}
use Rattle.sg_space.specs.View.{View}

-- the page is of this kind, and the slot has a cell of this size
pub record HasSized (kind slot size : ℕ) (sheet : Sheet) : Type 0 where
  pub kind_is : sheet.kind ≡ kind
  pub cell : List ℕ
  pub is : cell_in sheet.slots slot ≡ Some cell
  pub size_is : length cell ≡ size

-- the page is of this kind, and the slot has this cell
pub record HasCell (kind slot : ℕ) (cell : List ℕ) (sheet : Sheet) : Type 0 where
  pub kind_is : sheet.kind ≡ kind
  pub is : cell_in sheet.slots slot ≡ Some cell

abbrev pub CanRead : View → ℕ → ℕ → ℕ → ℕ → Type 0
CanRead v p kind slot size = v.Told → HasAt v.space.pages.at p (HasSized kind slot size)

abbrev pub Reads : View → ℕ → ℕ → ℕ → List ℕ → Type 0
Reads v p kind slot bytes = v.Shows → HasAt v.space.pages.at p (HasCell kind slot bytes)

-- a page of this kind that has one cell
abbrev pub one_cell : ℕ → List ℕ → Sheet
one_cell kind cell = record { kind = kind; links = (0, 0); slots = Some cell ∷ [] }

-- a page that was free has this cell, and nothing else has changed
pub record TookWith (old new : View) (kind : ℕ) (cell : List ℕ) (p : ℕ) : Type 0 where
  pub told : old.Told → new.Told
  pub may_take : old.MayTake → new.MayTake
  pub may_have : (q n : ℕ) → old.MayHave q n → new.MayHave q n
  pub pages : old.Told → IsTaken old.space.pages new.space.pages p (λ sheet. sheet ≡ one_cell kind cell)
  pub bands : old.Told → new.space.bands ≡ old.space.bands
  pub may_fill : old.Told → (n : ℕ) → n ≤ 1018 → new.MayHave p n
  pub small : p < 2 ^ 32
  pub wrote : (b : ℕ) → new.HasWritten b → old.HasWritten b
