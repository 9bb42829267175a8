-- Cells, resources, what an operation touches, and what is in conflict.
use Rattle.std.specs.Prelude.{◌≡◌, ℕ, zero, suc, Bool, true, false, ◌==◌, ◌&&◌, ◌||◌, nat_lt, if◌then◌else◌, List, [], ◌∷◌, length, map, Option, Some, None, slice_get}
use Rattle.std.specs.Str.{bytes_eq}
use Rattle.std.specs.FinMap.{get}
use Rattle.sg_serial.specs.Locks.{Touch}
use Rattle.sg_model.specs.Objects.{Row, Entries, Object, Objects}
use Rattle.sg_model.specs.Verb.{Verb, Op}
use Rattle.sg_model.specs.Objects.Object.{Array, Table, Blob}
use Rattle.sg_model.specs.Verb.Verb.{MakeArray, MakeTable, MakeBlob, Discard, Push, Pop, Set, Get, Len, Apply, Put, Del, Find, Keys, Write, Read, Size, Paint}
use Rattle.sg_model.specs.Verb.Op.{On, Names as AllNames}

-- a part of an object that can change by itself
pub data Part : Type 0 where
  Kind : Part
  Length : Part
  Item : (index : ℕ) → Part
  Key : (key : List ℕ) → Part
  Body : Part
  -- the tombstone of the name with a root
  Buried : (root : ℕ) → Part

-- a part of the object with a name
pub record Cell : Type 0 where
  pub name : List ℕ
  pub part : Part

-- one part of an object, all its keys, or all of it
pub data Region : Type 0 where
  Just : (part : Part) → Region
  EachKey : Region
  Everything : Region

-- a region of the object with a name, or whether each object is there
pub data Resource : Type 0 where
  Of : (name : List ℕ) → (region : Region) → Resource
  Names : Resource

abbrev pub same_part : Part → Part → Bool
same_part Kind Kind = true
same_part Length Length = true
same_part (Item i) (Item j) = i == j
same_part (Key k) (Key l) = bytes_eq k l
same_part Body Body = true
same_part (Buried r) (Buried s) = r == s
same_part p q = false

abbrev pub is_key : Part → Bool
is_key (Key k) = true
is_key other = false

abbrev pub is_kind : Part → Bool
is_kind Kind = true
is_kind other = false

abbrev pub covers_part : Region → Part → Bool
covers_part (Just p) q = same_part p q
covers_part EachKey q = is_key q
covers_part Everything q = true

abbrev pub covers : Resource → Cell → Bool
covers (Of name region) c = bytes_eq name c.name && covers_part region c.part
covers Names c = is_kind c.part

-- what is in a cell

pub data Sort : Type 0 where
  ArrayOf : (size : ℕ) → Sort
  TableSort : Sort
  BlobSort : Sort

abbrev pub Seen : Part → Type 0
Seen Kind = Option Sort
Seen Length = ℕ
Seen (Item i) = Option (List ℕ)
Seen (Key k) = Option (List ℕ)
Seen Body = List ℕ
Seen (Buried r) = Unit {0}

abbrev pub seen_row : Row → (p : Part) → Seen p
seen_row row Kind = Some (ArrayOf row.size)
seen_row row Length = length row.items
seen_row row (Item i) = slice_get row.items i
seen_row row (Key k) = None
seen_row row Body = []
seen_row row (Buried r) = tt

abbrev pub seen_entries : Entries → (p : Part) → Seen p
seen_entries m Kind = Some TableSort
seen_entries m Length = 0
seen_entries m (Item i) = None
seen_entries m (Key k) = get m k
seen_entries m Body = []
seen_entries m (Buried r) = tt

abbrev pub seen_blob : List ℕ → (p : Part) → Seen p
seen_blob bytes Kind = Some BlobSort
seen_blob bytes Length = 0
seen_blob bytes (Item i) = None
seen_blob bytes (Key k) = None
seen_blob bytes Body = bytes
seen_blob bytes (Buried r) = tt

abbrev pub seen_none : (p : Part) → Seen p
seen_none Kind = None
seen_none Length = 0
seen_none (Item i) = None
seen_none (Key k) = None
seen_none Body = []
seen_none (Buried r) = tt

abbrev pub seen : Option Object → (p : Part) → Seen p
seen None = seen_none
seen (Some (Array row)) = seen_row row
seen (Some (Table m)) = seen_entries m
seen (Some (Blob bytes)) = seen_blob bytes

abbrev pub cell : Objects → (c : Cell) → Seen c.part
cell s c = seen (get s c.name) c.part

-- what a verb touches

-- a region, and whether it is written
pub record Reach : Type 0 where
  pub region : Region
  pub write : Bool

abbrev pub to_read : Region → Reach
to_read region = record { region = region; write = false }

abbrev pub to_write : Region → Reach
to_write region = record { region = region; write = true }

abbrev pub last_item : ℕ → List Reach
last_item zero = []
last_item (suc n) = to_write (Just (Item n)) ∷ []

abbrev pub on_key : List ℕ → Reach → List Reach
on_key key reach = if length key == 0 then [] else (if nat_lt 128 (length key) then [] else reach ∷ [])

-- what a verb touches beside the kind, at an array
abbrev pub array_touches : Verb → Row → List Reach
array_touches (Push value) row = to_write (Just Length) ∷ to_write (Just (Item (length row.items))) ∷ []
array_touches Pop row = to_write (Just Length) ∷ last_item (length row.items)
array_touches (Set index value) row = to_write (Just (Item index)) ∷ []
array_touches (Get index) row = to_read (Just (Item index)) ∷ []
array_touches Len row = to_read (Just Length) ∷ []
array_touches (Apply index code arg) row = to_write (Just (Item index)) ∷ []
array_touches other row = []

-- at a table
abbrev pub table_touches : Verb → List Reach
table_touches (Put key value) = on_key key (to_write (Just (Key key)))
table_touches (Del key) = on_key key (to_write (Just (Key key)))
table_touches (Find key) = on_key key (to_read (Just (Key key)))
table_touches Keys = to_read EachKey ∷ []
table_touches other = []

-- at a blob
abbrev pub blob_touches : Verb → List Reach
blob_touches Len = to_read (Just Body) ∷ []
blob_touches (Write at bytes) = to_write (Just Body) ∷ []
blob_touches (Read at count) = to_read (Just Body) ∷ []
blob_touches (Size n) = to_write (Just Body) ∷ []
blob_touches (Paint at count code arg) = to_write (Just Body) ∷ []
blob_touches other = []

abbrev pub further : Verb → Option Object → List Reach
further verb None = []
further verb (Some (Array row)) = array_touches verb row
further verb (Some (Table m)) = table_touches verb
further verb (Some (Blob bytes)) = blob_touches verb

-- what a verb touches of its object
abbrev pub reach_of : Verb → Option Object → List Reach
reach_of (MakeArray size) object = to_write Everything ∷ []
reach_of MakeTable object = to_write Everything ∷ []
reach_of MakeBlob object = to_write Everything ∷ []
reach_of Discard object = to_write Everything ∷ []
reach_of verb object = to_read (Just Kind) ∷ further verb object

abbrev pub touch_of : List ℕ → Reach → Touch Resource
touch_of name r = record { what = Of name r.region; write = r.write }

unfoldable pub touches : Objects → Op → List (Touch Resource)
touches s (On name verb) = map (touch_of name) (reach_of verb (get s name))
touches s AllNames = (record { what = Names; write = false }) ∷ []

-- whether two resources are one
abbrev pub same_region : Region → Region → Bool
same_region (Just p) (Just q) = same_part p q
same_region EachKey EachKey = true
same_region Everything Everything = true
same_region r s = false

abbrev pub same_resource : Resource → Resource → Bool
same_resource (Of m p) (Of n q) = bytes_eq m n && same_region p q
same_resource Names Names = true
same_resource a b = false

-- what is in conflict

abbrev pub meet_regions : Region → Region → Bool
meet_regions (Just p) q = covers_part q p
meet_regions EachKey (Just q) = is_key q
meet_regions EachKey other = true
meet_regions Everything q = true

abbrev pub has_kind : Region → Bool
has_kind (Just p) = is_kind p
has_kind EachKey = false
has_kind Everything = true

-- whether two resources cover a common cell
abbrev pub meet : Resource → Resource → Bool
meet (Of m p) (Of n q) = bytes_eq m n && meet_regions p q
meet (Of m p) Names = has_kind p
meet Names (Of n q) = has_kind q
meet Names Names = true

-- the object that a resource is of
abbrev pub object_of : Resource → Option (List ℕ)
object_of (Of name region) = Some name
object_of Names = None

-- whether a resource tells that an object is there
abbrev pub tells_kind : Resource → Bool
tells_kind (Of name region) = has_kind region
tells_kind Names = true

-- whether another resource of the same object lies within one, and is a lesser one or all of it
abbrev pub is_over : Resource → Resource → Bool
is_over (Of name Everything) other = true
is_over (Of name EachKey) (Of n (Just p)) = is_key p
is_over one other = false

-- whether two resources of one object cover a common part of it
abbrev pub overlap : Resource → Resource → Bool
overlap a b = is_over a b || (is_over b a || same_resource b a)

-- whether two touches are in conflict
abbrev pub conflict : Touch Resource → Touch Resource → Bool
conflict a b = (a.write || b.write) && meet a.what b.what

-- one of two touches writes, and they cover a common cell
abbrev pub AreInConflict : Touch Resource → Touch Resource → Type 0
AreInConflict a b = ((a.write || b.write) ≡ true) × ((c : Cell) × (covers a.what c ≡ true) × (covers b.what c ≡ true))
