-- Readings: objects with what their pages and bands say beside their contents, tombstones, and what each cell shows of them.
use Rattle.std.specs.Prelude.{◌≡◌, ℕ, ◌≤◌, List, [], ◌∷◌, ◌++◌, map, Option, Some, None}
use Rattle.std.specs.Ordering.{nat_cmp}
use Rattle.std.specs.Cmp.Lexicographic.{slice_cmp}
use Rattle.std.specs.FinMap.{FinMap, get, entries, from_entries}
use Rattle.sg_model.specs.Objects.{Object, Objects}
use Rattle.sg_model.specs.Objects.Object.{Array, Table, Blob}
use Rattle.sg_model.specs.Touches.{Part, Cell, Sort, Seen, seen}
use Rattle.sg_model.specs.Touches.Part.{Kind, Length, Item, Key, Body, Buried}

-- what stands around an object: the number of its root page; the peak of its length, of a table that of its entry bytes;
-- the numbers of a blob's bands, in order
pub record Around : Type 0 where
  pub root : ℕ
  pub peak : ℕ
  pub bands : List ℕ

-- an object as its pages hold it
pub data Thing : Type 0 where
  There : (object : Object) → (around : Around) → Thing

-- a dropped object, with the transaction that dropped it
pub record Tomb : Type 0 where
  pub dropper : ℕ
  pub thing : Thing

-- What pages and bands read as: objects under their names, tombstones each under its root page and then its name, the peak
-- of the catalogue's entries, and how many pages all these have. That number stands in no cell, and objects don't determine
-- it: the buckets of a table have pages by the order in which its keys came
pub record Reading : Type 0 where
  pub things : FinMap (slice_cmp nat_cmp) Thing
  pub tombs : FinMap (slice_cmp nat_cmp) Tomb
  pub peak : ℕ
  pub pages : ℕ

abbrev pub object_of : Thing → Object
object_of (There o w) = o

abbrev pub around_of : Thing → Around
around_of (There o w) = w

abbrev pub plain : Option Thing → Option Object
plain None = None
plain (Some th) = Some (object_of th)

abbrev pub plain_entry : List ℕ × Thing → List ℕ × Object
plain_entry e = (e.0, object_of e.1)

-- the objects of a reading
unfoldable pub objects : Reading → Objects
objects o = from_entries (map plain_entry (entries o.things))

-- what a reading has under one name
pub record Slot : Type 0 where
  pub thing : Option Thing
  pub buried : ℕ → Option Tomb

abbrev pub slot : Reading → List ℕ → Slot
slot o n = record { thing = get o.things n; buried = λ r. get o.tombs (r ∷ n) }

-- What a cell shows beside its contents. The peak of a table's entry bytes, that of the catalogue and the count of pages
-- stand in no cell: transactions that put under different keys raise them side by side.

-- a blob's peak and bands
pub record Room : Type 0 where
  pub peak : ℕ
  pub bands : List ℕ

abbrev pub no_room : Room
no_room = record { peak = 0; bands = [] }

-- root; an array's peak; a blob's room; a tombstone
abbrev pub Extra : Part → Type 0
Extra Kind = ℕ
Extra Length = ℕ
Extra (Item i) = Unit {0}
Extra (Key k) = Unit {0}
Extra Body = Room
Extra (Buried r) = Option Tomb

abbrev pub no_extra : (p : Part) → Extra p
no_extra Kind = 0
no_extra Length = 0
no_extra (Item i) = tt
no_extra (Key k) = tt
no_extra Body = no_room
no_extra (Buried r) = None

abbrev pub array_extra : Around → (p : Part) → Extra p
array_extra w Kind = w.root
array_extra w Length = w.peak
array_extra w (Item i) = tt
array_extra w (Key k) = tt
array_extra w Body = no_room
array_extra w (Buried r) = None

abbrev pub table_extra : Around → (p : Part) → Extra p
table_extra w Kind = w.root
table_extra w Length = 0
table_extra w (Item i) = tt
table_extra w (Key k) = tt
table_extra w Body = no_room
table_extra w (Buried r) = None

abbrev pub blob_extra : Around → (p : Part) → Extra p
blob_extra w Kind = w.root
blob_extra w Length = 0
blob_extra w (Item i) = tt
blob_extra w (Key k) = tt
blob_extra w Body = record { peak = w.peak; bands = w.bands }
blob_extra w (Buried r) = None

abbrev pub thing_extra : Option Thing → (p : Part) → Extra p
thing_extra None = no_extra
thing_extra (Some (There (Array row) w)) = array_extra w
thing_extra (Some (There (Table m) w)) = table_extra w
thing_extra (Some (There (Blob x) w)) = blob_extra w

-- an object with only that of its surroundings which cells show
abbrev pub bared : Thing → Thing
bared (There (Array row) w) = There (Array row) (record { root = w.root; peak = w.peak; bands = [] })
bared (There (Table m) w) = There (Table m) (record { root = w.root; peak = 0; bands = [] })
bared (There (Blob x) w) = There (Blob x) (record { root = w.root; peak = w.peak; bands = w.bands })

abbrev pub bared_tomb : Option Tomb → Option Tomb
bared_tomb None = None
bared_tomb (Some d) = Some (record { dropper = d.dropper; thing = bared d.thing })

abbrev pub extra : Slot → (p : Part) → Extra p
extra s Kind = thing_extra s.thing Kind
extra s Length = thing_extra s.thing Length
extra s (Item i) = tt
extra s (Key k) = tt
extra s Body = thing_extra s.thing Body
extra s (Buried r) = bared_tomb (s.buried r)

-- What a cell of a reading shows: the kind of the object, what the plain objects show there, and the rest
pub record Shown (p : Part) : Type 0 where
  pub sort : Option Sort
  pub value : Seen p
  pub extra : Extra p

abbrev pub shown : Slot → (p : Part) → Shown p
shown s p = record { sort = seen (plain s.thing) Kind; value = seen (plain s.thing) p; extra = extra s p }

abbrev pub at : Reading → (c : Cell) → Shown c.part
at o c = shown (slot o c.name) c.part

-- Cells with the same in them, but for peaks and bands, which stand to one another as said

module _ (P : ℕ → ℕ → Type 0) (B : List ℕ → List ℕ → Type 0) where
  abbrev pub NearExtra : (p : Part) → Extra p → Extra p → Type 0
  NearExtra Kind a b = a ≡ b
  NearExtra Length a b = P a b
  NearExtra (Item i) a b = Unit {0}
  NearExtra (Key k) a b = Unit {0}
  NearExtra Body a b = P a.peak b.peak × B a.bands b.bands
  NearExtra (Buried r) a b = a ≡ b

  pub record Near (p : Part) (a b : Shown p) : Type 0 where
    pub sort : a.sort ≡ b.sort
    pub value : a.value ≡ b.value
    pub extra : NearExtra p a.extra b.extra

-- the second has all bands of the first, at the same places
abbrev pub Extends : List ℕ → List ℕ → Type 0
Extends bs cs = (more : List ℕ) × (cs ≡ bs ++ more)

-- the same, and peaks and bands no less
abbrev pub Le : (p : Part) → Shown p → Shown p → Type 0
Le p = Near (λ a b. a ≤ b) Extends p

abbrev pub Same : (p : Part) → Shown p → Shown p → Type 0
Same p = Near (λ a b. a ≡ b) (λ a b. a ≡ b) p
