-- What the calls on the catalogue want and do.
use Rattle.std.specs.Prelude.{◌≡◌, ◌≢◌, ℕ, ◌+◌, ◌-◌, ◌*◌, ◌<◌, max, slice_get, Bool, IsTrue, List, ◌++◌, ◌∷◌, length, Option, Some, None, IsSome}
use Rattle.std.specs.List.{find}
use Rattle.sg_base.specs.declared.numbers.TxnId.{TxnId}
use Rattle.sg_space.specs.Owned.{Becomes, AreApart}
use Rattle.sg_space.specs.Pages.{HasFree}
use Rattle.sg_space.specs.View.{View, Space, Keeps, MayFill}
use Rattle.sg_catalog.specs.Catalog.{Catalog, IsRaw, IsCatalog, Owns, rows, there, tombs, is_there, is_tomb_of, is_tomb_at}
use Rattle.sg_catalog.specs.Steps.{Surveyed, RawTurns, with_page}
use Rattle.sg_catalog.specs.declared.row.Entry.{Entry}
use Rattle.sg_catalog.specs.declared.row.Row.{Row}
use Rattle.sg_catalog.specs.declared.walk.Survey.{Survey}

-- there is a catalogue, and it has this property
abbrev pub HasCatalog : View → (Catalog → Type 0) → Type 0
HasCatalog v P = v.Told → (c : Catalog) × IsCatalog v.space.pages.at c × P c

-- where the space shows a catalogue, it has this property
abbrev pub IfCatalog : View → (Catalog → Type 0) → Type 0
IfCatalog v P = v.Shows → (c : Catalog) → IsCatalog v.space.pages.at c → P c

-- the pages that pass a test are as before, are there, and none is the catalogue's
pub record StandsBeside (old new : Space) (c' : Catalog) (other : ℕ → Bool) : Type 0 where
  pub same : (p : ℕ) → IsTrue (other p) → new.pages.at p ≡ old.pages.at p
  pub apart : AreApart new.pages (Owns c') (λ p. IsTrue (other p))

-- The catalogue is another one now. Its pages are those from before and some that were free; no other page and no band has
-- changed.
pub record Turns (old new : Space) (c c' : Catalog) : Type 0 where
  pub catalog : IsCatalog new.pages.at c'
  pub pages : Becomes old.pages new.pages (Owns c) (Owns c') (length c.pages) (length c'.pages)
  pub bands : new.bands ≡ old.bands
  -- What another structure owns of the pages, told by any test, stays as it is, and apart from the catalogue's.
  pub beside : (other : ℕ → Bool) → AreApart old.pages (Owns c) (λ p. IsTrue (other p)) → StandsBeside old new c' other

-- what a call does to each catalogue that stood there and of which it could be asked
pub record DidIf (v w : View) (Can : Catalog → Type 0) (Is : Catalog → Catalog → Type 0) : Type 0 where
  pub keeps : v.Told → Keeps v w
  pub turns : v.Told → (c : Catalog) → IsCatalog v.space.pages.at c → Can c → (c' : Catalog) × Turns v.space w.space c c' × Is c c'

-- the same, where a page of the catalogue may have shrunk
pub record ShrankIf (v w : View) (Can : Catalog → Type 0) (Is : Catalog → Catalog → Type 0) : Type 0 where
  pub told : v.Told → w.Told
  pub may_take : v.Told → v.MayTake → w.MayTake
  pub may_have : v.Told → (c : Catalog) → IsCatalog v.space.pages.at c → (page slots : ℕ) → ¬ Owns c page → v.MayHave page slots → w.MayHave page slots
  pub turns : v.Told → (c : Catalog) → IsCatalog v.space.pages.at c → Can c → (c' : Catalog) × Turns v.space w.space c c' × Is c c'

-- a row as the tombstone of what it names, and as the object again
abbrev pub tomb_by : TxnId → Row → Row
tomb_by by row = record row { dropper = Some by }

abbrev pub raised : Row → Row
raised row = record row { dropper = None }

-- the second list has one row more, and the others in the order of the first
pub record IsOneMore (row : Row) (less more : List Row) : Type 0 where
  pub front : List Row
  pub back : List Row
  pub less_is : less ≡ front ++ back
  pub more_is : more ≡ front ++ (row ∷ back)

-- the second list has one row in the place of another one of the first
pub record IsInPlace (was now : Row) (before after : List Row) : Type 0 where
  pub front : List Row
  pub back : List Row
  pub before_is : before ≡ front ++ (was ∷ back)
  pub after_is : after ≡ front ++ (now ∷ back)

-- under this name the map has this now, and under every other one what it had
pub record IsMapWith (name : List ℕ) (x : Option Row) (old new : List Row) : Type 0 where
  pub here : there name new ≡ x
  pub others : (other : List ℕ) → other ≢ name → there other new ≡ there other old

-- the first row that passes a test is another one now, and the others are as before
pub record IsOther (p : Row → Bool) (change : Row → Row) (c c' : Catalog) : Type 0 where
  pub row : Row
  pub was : find p (rows c) ≡ Some row
  pub rows_are : IsInPlace row (change row) (rows c) (rows c')
  pub peak : c'.peak ≡ c.peak
  pub pages : c'.pages ≡ c.pages

-- the first row that passes a test is gone, and the others are as before
pub record IsLess (p : Row → Bool) (c c' : Catalog) : Type 0 where
  pub row : Row
  pub was : find p (rows c) ≡ Some row
  pub rows_are : IsOneMore row (rows c') (rows c)
  pub peak : c'.peak ≡ c.peak
  pub pages : c'.pages ≡ c.pages

-- THE OBJECT OF A NAME BECAME A TOMBSTONE: the name goes from the map, and the tombstone comes to the others
pub record IsBuried (name : List ℕ) (by : TxnId) (c c' : Catalog) : Type 0 where
  pub change : IsOther (is_there name) (tomb_by by) c c'
  pub map : IsMapWith name None (rows c) (rows c')
  pub tombs_are : IsOneMore (tomb_by by change.row) (tombs (rows c)) (tombs (rows c'))

-- A TOMBSTONE BECAME THE OBJECT OF ITS NAME AGAIN
pub record IsRaised (name : List ℕ) (root : ℕ) (c c' : Catalog) : Type 0 where
  pub change : IsOther (is_tomb_of name root) raised c c'
  pub map : IsMapWith name (Some (raised change.row)) (rows c) (rows c')
  pub tombs_are : IsOneMore change.row (tombs (rows c')) (tombs (rows c))

-- THE OBJECT OF A NAME IS GONE
pub record IsRemoved (name : List ℕ) (c c' : Catalog) : Type 0 where
  pub change : IsLess (is_there name) c c'
  pub map : IsMapWith name None (rows c) (rows c')
  pub tombs_are : tombs (rows c') ≡ tombs (rows c)

-- A TOMBSTONE IS GONE
pub record IsForgotten (root : ℕ) (c c' : Catalog) : Type 0 where
  pub change : IsLess (is_tomb_at root) c c'
  pub map : (name : List ℕ) → there name (rows c') ≡ there name (rows c)
  pub tombs_are : IsOneMore change.row (tombs (rows c')) (tombs (rows c))

-- there is a row that passes a test
abbrev pub HasOne : (Row → Bool) → Catalog → Type 0
HasOne p c = IsSome (find p (rows c))

-- a tombstone may become an object again: none of its name is there
pub record CanRaise (name : List ℕ) (root : ℕ) (c : Catalog) : Type 0 where
  pub tomb : HasOne (is_tomb_of name root) c
  pub absent : there name (rows c) ≡ None

-- The pages' slots may be opened, and where all 79 of each page are full, one page is free and may be taken
pub record CanGrow (v : View) (c : Catalog) : Type 0 where
  pub may_fill : (p : ℕ) → Owns c p → MayFill v p 79
  pub free : length (rows c) ≡ 79 * length c.pages → HasFree v v.space.pages

-- an object may get this name
pub record CanAdd (v : View) (name : List ℕ) (c : Catalog) : Type 0 where
  pub absent : there name (rows c) ≡ None
  pub grow : CanGrow v c

-- an object under its name
abbrev pub object : List ℕ → Entry → Row
object name entry = record { kind = entry.kind; dropper = None; root = entry.root; name = name }

-- AN OBJECT HAS A NAME THAT NONE HAD: there is one row more, and the peak is no less than the rows
pub record IsAdded (row : Row) (c c' : Catalog) : Type 0 where
  pub rows_are : IsOneMore row (rows c) (rows c')
  pub map : IsMapWith row.name (Some row) (rows c) (rows c')
  pub tombs_are : tombs (rows c') ≡ tombs (rows c)
  pub peak : c'.peak ≡ max c.peak (length (rows c'))

-- a row is to be put into a catalogue that is as full as was found
pub record CanPlace (v : View) (s : Survey) (c : Catalog) : Type 0 where
  pub survey : Surveyed v.space.pages.at c s
  pub grow : CanGrow v c

-- there is one row more, and one page more where all were full
pub record IsPlaced (row : Row) (c c' : Catalog) : Type 0 where
  pub rows_are : IsOneMore row (rows c) (rows c')
  pub peak : c'.peak ≡ c.peak
  pub same_pages : length (rows c) < 79 * length c.pages → length c'.pages ≡ length c.pages
  pub more_pages : length (rows c) ≡ 79 * length c.pages → length c'.pages ≡ length c.pages + 1

-- what a call did to each catalogue into which it could put a row
pub record PlacesRow (v w : View) (s : Survey) (row : Row) : Type 0 where
  pub keeps : v.Told → Keeps v w
  pub turns : v.Told → (c : Catalog) → IsCatalog v.space.pages.at c → CanPlace v s c → (c' : Catalog) × RawTurns v.space w.space c c' × IsPlaced row c c'

-- one page is free behind the last one
pub record CanLink (v : View) (last : ℕ) (c : Catalog) : Type 0 where
  pub at_last : slice_get c.pages (length c.pages - 1) ≡ Some last
  pub free : HasFree v v.space.pages

-- what a call made of each catalogue behind whose last page it could take one
pub record LinksPage (v w : View) (last : ℕ) (row : Row) : Type 0 where
  pub keeps : v.Told → Keeps v w
  pub turns : v.Told → (c : Catalog) → IsRaw v.space.pages.at c → CanLink v last c → (q : ℕ) × RawTurns v.space w.space c (with_page q row c)

-- what a call made of each catalogue of this peak
pub record RaisesPeak (v w : View) (peak rows : ℕ) : Type 0 where
  pub keeps : v.Told → Keeps v w
  pub turns : v.Told → (c : Catalog) → IsRaw v.space.pages.at c → c.peak ≡ peak → RawTurns v.space w.space c (record c { peak = max peak rows })
