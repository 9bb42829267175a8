-- What is proved of contents, each under a name.
use Rattle.std.specs.Prelude.{◌≡◌, ℕ, ◌+◌, ◌≤◌, ◌==◌, cond, List, ◌∷◌, length, Option, Some, None, option_map}
use Rattle.std.specs.Prelude.{option_and_then}
use Rattle.std.specs.List.{find}
use Rattle.std.specs.FinMap.{get}
use Rattle.sg_base.specs.declared.numbers.TxnId.{TxnId}
use Rattle.sg_catalog.specs.Calls.{Turns, IsOneMore, IsInPlace, IsAdded, IsBuried, IsRaised, IsRemoved}
use Rattle.sg_catalog.specs.Catalog.{Catalog, rows, there, is_tomb_of}
use Rattle.sg_catalog.specs.Catalog as listing
use Rattle.sg_catalog.specs.declared.row.Row.{Row}
use Rattle.sg_hash.specs.Table.{HashTable, value_at}
use Rattle.sg_reading.specs.Left.{Leaves, left_buried}
use Rattle.sg_reading.specs.Reading.{Tomb, slot}
use Rattle.sg_space.specs.Units.{IsExact}
use Rattle.sg_space.specs.View.{Space}
use Rattle.sg_contents.specs.Changes.{with_body, BodyTurns, BodyMade, BodyGone, AreWithin}
use Rattle.sg_contents.specs.Limits.{limit, BodyLimits}
use Rattle.sg_contents.specs.Meaning.{map_of, thing_of, thing_at, tomb_at, tomb_in, reading, IsCounted}
use Rattle.sg_contents.specs.Standing.{Body, Contents, Holds, IsContents, IsAmong, NoneIsLost}

-- with another catalogue
abbrev pub with_catalog : Catalog → Contents → Contents
with_catalog c s = record s { catalog = c }

-- WHAT STANDS. Where one body turns, all others stand beside the new one,
abbrev pub BodyIsTurned : Type 0
BodyIsTurned = (kept : ℕ) (old new : Space) (s : Contents) (xs : List Row) (row : Row) (b : Body) → IsAmong xs row → Holds kept old s xs
    → BodyTurns old new row.kind row.root.0 (s.body row.root.0) b → Holds kept new (with_body row.root.0 b s) xs

-- so they do beside a body that was made
abbrev pub BodyIsMade : Type 0
BodyIsMade = (kept : ℕ) (old new : Space) (s : Contents) (xs : List Row) (row : Row) (b : Body) → Holds kept old s xs
    → BodyMade old new row.kind row.root.0 b → Holds kept new (with_body row.root.0 b s) (row ∷ xs)

-- and without one that has gone;
abbrev pub BodyIsGone : Type 0
BodyIsGone = (kept : ℕ) (old new : Space) (s : Contents) (xs : List Row) (row : Row) → Holds kept old s (row ∷ xs)
    → BodyGone old new row.root.0 (s.body row.root.0) → Holds kept new s xs

-- where the catalogue turns, all bodies stand;
abbrev pub CatalogIsTurned : Type 0
CatalogIsTurned = (kept : ℕ) (old new : Space) (s : Contents) (xs : List Row) (c : Catalog) → Holds kept old s xs
    → Turns old new s.catalog c → Holds kept new (with_catalog c s) xs

-- and what stands for some rows does for fewer, in any order
abbrev pub FewerStand : Type 0
FewerStand = (kept : ℕ) (space : Space) (s : Contents) (xs ys : List Row) → Holds kept space s ys → AreWithin xs ys → Holds kept space s xs

-- There are fewer rows than pages
abbrev pub RowsAreFew : Type 0
RowsAreFew = (kept : ℕ) (space : Space) (s : Contents) (xs : List Row) → Holds kept space s xs → IsExact space.pages → length xs + 1 ≤ space.pages.count

-- WHAT IT MEANS. Under each name the reading has what stands at the root of its row,
abbrev pub ThingsAreRows : Type 0
ThingsAreRows = (s : Contents) (name : List ℕ) → get (reading s).things name ≡ option_map (thing_at s.body) (there name (rows s.catalog))

-- of a root and a name the tombstone that a row is,
abbrev pub TombsAreRows : Type 0
TombsAreRows = (s : Contents) (root : ℕ) (name : List ℕ) → get (reading s).tombs (root ∷ name) ≡ option_and_then (tomb_in s.body) (find (is_tomb_of name root) (rows s.catalog))

-- and the map of a table has what the table maps a key to
abbrev pub MapIsOfTable : Type 0
MapIsOfTable = (t : HashTable) (key : List ℕ) → get (map_of t) key ≡ value_at t key

-- WHAT A CHANGE LEAVES of the reading. Of an object whose body turns: the new body under its name
abbrev pub ObjectTurns : Type 0
ObjectTurns = (space : Space) (s : Contents) (name : List ℕ) (row : Row) (b : Body) → IsContents space s → there name (rows s.catalog) ≡ Some row
    → Leaves name (Some (thing_of row.root.0 b)) (slot (reading s) name).buried (reading s) (reading (with_body row.root.0 b s))

-- Of a body that is made, and then gets a row: the object under the row's name
abbrev pub ObjectIsMade : Type 0
ObjectIsMade = (kept : ℕ) (old mid new : Space) (s : Contents) (row : Row) (b : Body) (c : Catalog) → Holds kept old s (rows s.catalog) → row.dropper ≡ None
    → BodyMade old mid row.kind row.root.0 b → Turns mid new s.catalog c → IsAdded row s.catalog c
    → Holds kept new (with_catalog c (with_body row.root.0 b s)) (rows c)
    × Leaves row.name (Some (thing_of row.root.0 b)) (slot (reading s) row.name).buried (reading s) (reading (with_catalog c (with_body row.root.0 b s)))

-- the tombstones of a name with one more
abbrev pub with_tomb : (root : ℕ) → Tomb → (ℕ → Option Tomb) → ℕ → Option Tomb
with_tomb root tomb buried r = cond (root == r) (Some tomb) (buried r)

-- Of an object that is dropped: nothing under its name, and its tombstone
abbrev pub ObjectIsBuried : Type 0
ObjectIsBuried = (kept : ℕ) (old new : Space) (s : Contents) (name : List ℕ) (by : TxnId) (c : Catalog) → Holds kept old s (rows s.catalog)
    → Turns old new s.catalog c → (a : IsBuried name by s.catalog c)
    → Holds kept new (with_catalog c s) (rows c)
    × Leaves name None (with_tomb a.change.row.root.0 (tomb_at s.body by a.change.row) (slot (reading s) name).buried) (reading s) (reading (with_catalog c s))

-- Of a tombstone that is an object again: what it was under its name, without the tombstone
abbrev pub TombIsRaised : Type 0
TombIsRaised = (kept : ℕ) (old new : Space) (s : Contents) (name : List ℕ) (root : ℕ) (c : Catalog) → Holds kept old s (rows s.catalog)
    → Turns old new s.catalog c → (a : IsRaised name root s.catalog c)
    → Holds kept new (with_catalog c s) (rows c)
    × Leaves name (Some (thing_at s.body a.change.row)) (left_buried (Some root) (slot (reading s) name).buried) (reading s) (reading (with_catalog c s))

-- Of an object whose row goes, and then its body: nothing under its name, and the tombstones that there were
abbrev pub ObjectIsUnmade : Type 0
ObjectIsUnmade = (kept : ℕ) (old mid new : Space) (s : Contents) (name : List ℕ) (c : Catalog) → Holds kept old s (rows s.catalog)
    → Turns old mid s.catalog c → (a : IsRemoved name s.catalog c) → BodyGone mid new a.change.row.root.0 (s.body a.change.row.root.0)
    → Holds kept new (with_catalog c s) (rows c)
    × Leaves name None (slot (reading s) name).buried (reading s) (reading (with_catalog c s))

-- HOW MUCH IS FREE. What isn't free is what the contents have, once a body turned,
abbrev pub TurnedIsCounted : Type 0
TurnedIsCounted = (old new : Space) (s : Contents) (row : Row) (b : Body) → IsContents old s → IsAmong (rows s.catalog) row → IsCounted old s
    → BodyTurns old new row.kind row.root.0 (s.body row.root.0) b → IsCounted new (with_body row.root.0 b s)

-- once a row became another one with the same root,
abbrev pub PlaceIsCounted : Type 0
PlaceIsCounted = (old new : Space) (s : Contents) (c : Catalog) (was now : Row) → IsCounted old s → Turns old new s.catalog c
    → IsInPlace was now (rows s.catalog) (rows c) → was.root.0 ≡ now.root.0 → IsCounted new (with_catalog c s)

-- once a body was made and got its row,
abbrev pub MadeIsCounted : Type 0
MadeIsCounted = (old mid new : Space) (s : Contents) (row : Row) (b : Body) (c : Catalog) → IsContents old s → IsCounted old s
    → BodyMade old mid row.kind row.root.0 b → Turns mid new s.catalog c → IsOneMore row (rows s.catalog) (rows c)
    → IsCounted new (with_catalog c (with_body row.root.0 b s))

-- and once a row went, and then its body
abbrev pub UnmadeIsCounted : Type 0
UnmadeIsCounted = (old mid new : Space) (s : Contents) (row : Row) (c : Catalog) → IsCounted old s → Turns old mid s.catalog c
    → IsOneMore row (rows c) (rows s.catalog) → BodyGone mid new row.root.0 (s.body row.root.0) → IsCounted new (with_catalog c s)

-- So nothing is taken that isn't reached, but for the map's bands: where as much isn't free as they and the contents have
abbrev pub NothingIsLost : Type 0
NothingIsLost = (space : Space) (s : Contents) → IsContents space s → IsCounted space s → IsExact space.pages → IsExact space.bands → NoneIsLost space s

-- HOW MANY SLOTS a page may have. Each page of a body has the limit of what it is to the body,
abbrev pub BodyIsLimited : Type 0
BodyIsLimited = (space : Space) (s : Contents) (row : Row) → IsContents space s → IsAmong (rows s.catalog) row → BodyLimits (limit s space.pages.at) row.root.0 (s.body row.root.0)

-- and each page of the catalogue that of the catalogue
abbrev pub CatalogIsLimited : Type 0
CatalogIsLimited = (space : Space) (s : Contents) (page : ℕ) → IsContents space s → listing.Owns s.catalog page → limit s space.pages.at page ≡ 79
