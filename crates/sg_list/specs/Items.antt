-- A list of items in one page, and what the calls on it want and do.
use Rattle.std.specs.Prelude.{◌≡◌, ◌≢◌, ℕ, ◌+◌, ◌≤◌, ◌++◌, List, [], ◌∷◌, length, map, slice_get, Some}
use Rattle.sg_base.specs.Page.{bytes_of}
use Rattle.sg_base.specs.Sheet.{Sheet}
use Rattle.sg_space.specs.Units.{HasAt, IsTaken}
use Rattle.sg_space.specs.View.{View, Space, Keeps}

-- a page of the list's kind that has one item in each of its slots
pub record IsList (items : List (List ℕ)) (sheet : Sheet) : Type 0 where
  pub kind : sheet.kind ≡ 255
  pub slots : sheet.slots ≡ map Some items

-- the list stands in this page
abbrev pub Stands : Space → ℕ → List (List ℕ) → Type 0
Stands space root items = HasAt space.pages.at root (IsList items)

-- there is a list, and it has this property
abbrev pub HasList : View → ℕ → (List (List ℕ) → Type 0) → Type 0
HasList v root P = v.Told → (items : List (List ℕ)) × Stands v.space root items × P items

-- where the space shows a list, it has this property
abbrev pub IfList : View → ℕ → (List (List ℕ) → Type 0) → Type 0
IfList v root P = v.Shows → (items : List (List ℕ)) → Stands v.space root items → P items

-- the item of this number, which has so many bytes
pub record HasSized (i size : ℕ) (items : List (List ℕ)) : Type 0 where
  pub item : List ℕ
  pub is : slice_get items i ≡ Some item
  pub size_is : length item ≡ size

-- the page has the bytes for one item more, and the open action may open its slot
pub record CanPush (v : View) (root : ℕ) (item : List ℕ) (items : List (List ℕ)) : Type 0 where
  pub short : length item ≤ 4068
  pub fits : bytes_of (map Some (items ++ item ∷ [])) ≤ 4072
  pub may : v.MayHave root (length items + 1)

-- a page that was free is a list of no items, and no other page and no band has changed
pub record Made (v w : View) (root : ℕ) : Type 0 where
  pub keeps : v.Told → Keeps v w
  pub page : v.Told → IsTaken v.space.pages w.space.pages root (IsList [])
  pub bands : v.Told → w.space.bands ≡ v.space.bands
  -- the page may have as many items as a page has the bytes for
  pub may_fill : v.Told → (n : ℕ) → n ≤ 1018 → w.MayHave root n

-- the list of this page is another one, and no other page and no band has changed
pub record Becomes (old new : Space) (root : ℕ) (items : List (List ℕ)) : Type 0 where
  pub list : Stands new root items
  pub others : (p : ℕ) → p ≢ root → new.pages.at p ≡ old.pages.at p
  pub free : new.pages.free ≡ old.pages.free
  pub bands : new.bands ≡ old.bands

-- the item is behind the others
pub record Pushed (v w : View) (root : ℕ) (item : List ℕ) : Type 0 where
  pub keeps : v.Told → Keeps v w
  pub done : v.Told → (items : List (List ℕ)) → Stands v.space root items → Becomes v.space w.space root (items ++ item ∷ [])
