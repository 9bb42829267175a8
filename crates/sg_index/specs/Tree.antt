-- The nodes of a tree, as they stand in records, and what they hold.
use Rattle.std.specs.Prelude.{◌≡◌, ℕ, zero, suc, ◌+◌, ◌<◌, ◌≤◌, ◌^◌, ◌==◌, ◌⊎◌, if◌then◌else◌, Bool, List, [], ◌∷◌, length, map, Option, Some, None, IsSome, Contains, option_and_then}
use Rattle.std.specs.List.{flat_map, AllByRecursion}
use Rattle.byteorder.specs.Endian.{little_bytes}
use Rattle.sg_index.specs.declared.item.Item.{Item}
use Rattle.sg_index.specs.Node.{read_node}
use Rattle.sg_index.specs.Order.{IsBelow, Entry}
use Rattle.sg_index.specs.Records.{Map}

-- the key of a node's record: `n` and its number
unfoldable pub node_key : ℕ → List ℕ
node_key number = 110 ∷ little_bytes 4 number

-- the items of a node, a leaf or an inner node, where its record is one
unfoldable pub node_at : Map → Bool → ℕ → Option (List Item)
node_at records leaf number = option_and_then (read_node leaf) (records (node_key number))

-- A part of a tree read from left to right: entries, and the separators between them. A separator has no value.
pub record Mark : Type 0 where
  pub key : List ℕ
  pub value : Option (List ℕ)

abbrev pub separator : List ℕ → Mark
separator key = record { key = key; value = None }

abbrev pub mark_of : Item → Mark
mark_of i = record { key = i.key; value = Some i.value }

abbrev pub entry_of : Item → Entry
entry_of i = (i.key, i.value)

-- Keys right of a separator are at or above it, and in all other cases the key that stands further right is the greater one.
abbrev pub IsBefore : Mark → Mark → Type 0
IsBefore a b = IsBelow a.key b.key ⊎ ((a.key ≡ b.key) × (a.value ≡ None) × IsSome b.value)

abbrev pub Rises : List Mark → Type 0
Rises [] = Unit {0}
Rises (m ∷ ms) = AllByRecursion (IsBefore m) ms × Rises ms

-- the entries among them
abbrev pub with_value : List ℕ → Option (List ℕ) → List Entry → List Entry
with_value key None entries = entries
with_value key (Some value) entries = (key, value) ∷ entries

abbrev pub entries_in : List Mark → List Entry
entries_in [] = []
entries_in (m ∷ ms) = with_value m.key m.value (entries_in ms)

-- A child of an inner node: the separator left of it, its number, what it holds from that separator on, and the numbers of
-- its nodes. The first child of a node has the separator left of that node.
pub record Child : Type 0 where
  pub key : List ℕ
  pub number : ℕ
  pub marks : List Mark
  pub numbers : List ℕ

abbrev pub item_of : Child → Item
item_of c = record { key = c.key; value = []; child = c.number }

-- the items of a node with these children: the separator of the first one stands in a node above
abbrev pub branches : List Child → List Item
branches [] = []
branches (c ∷ cs) = record (item_of c) { key = [] } ∷ map item_of cs

abbrev pub marks_in : Child → List Mark
marks_in c = c.marks

abbrev pub numbers_in : Child → List ℕ
numbers_in c = c.numbers

-- how many items a node has at least: 7 entries, or 8 children
abbrev pub fewest : Bool → ℕ
fewest leaf = if leaf then 7 else 8

-- what a node in memory, whose record has these items, holds behind the separator left of it, and the numbers of the nodes
-- below it
abbrev pub Holding : Type 1
Holding = List ℕ → List Item → List Mark → List ℕ → Type 0

-- the entries of a leaf
pub record IsLeaf (key : List ℕ) (items : List Item) (marks : List Mark) (numbers : List ℕ) : Type 0 where
  pub marks_are : marks ≡ separator key ∷ map mark_of items
  pub numbers_are : numbers ≡ []

-- a child whose record is a node of the level below, with enough items
pub record IsChild (records : Map) (leaf : Bool) (Holds : Holding) (c : Child) : Type 0 where
  pub items : List Item
  pub below : List ℕ
  pub there : node_at records leaf c.number ≡ Some items
  pub enough : fewest leaf ≤ length items
  pub holds : Holds c.key items c.marks below
  pub numbers_are : c.numbers ≡ c.number ∷ below
  pub small : c.number < 2 ^ 32

-- the first separator of some children
abbrev pub first_key : List Child → Option (List ℕ)
first_key [] = None
first_key (c ∷ cs) = Some c.key

-- an inner node, whose children hold what it holds
pub record IsInner (records : Map) (leaf : Bool) (Holds : Holding) (key : List ℕ) (items : List Item) (marks : List Mark) (numbers : List ℕ) : Type 0 where
  pub children : List Child
  pub items_are : items ≡ branches children
  pub first : first_key children ≡ Some key
  pub each : AllByRecursion (IsChild records leaf Holds) children
  pub marks_are : marks ≡ flat_map marks_in children
  pub numbers_are : numbers ≡ flat_map numbers_in children

-- A node so many levels above the leaves, whose items are in memory and whose children stand in records.
abbrev pub Holds : Map → ℕ → Holding
Holds records zero = IsLeaf
Holds records (suc level) = IsInner records (level == 0) (Holds records level)

-- the record of a node, or its absence, isn't that of a node of this kind with so many items
abbrev pub IsNoNode : Map → Bool → ℕ → ℕ → Type 0
IsNoNode records leaf least number = (items : List Item) → node_at records leaf number ≡ Some items → length items < least

-- Below a node with these items, so many levels above the leaves, the records `before` name a node whose record in `now`, or
-- its absence, isn't that of a node of its level.
abbrev pub IsBroken : Map → Map → ℕ → List Item → Type 0
IsBroken before now zero items = ⊥
IsBroken before now (suc level) items =
    (i : Item) × Contains items i × (IsNoNode now (level == 0) (fewest (level == 0)) i.child ⊎ ((below : List Item) × (node_at before (level == 0) i.child ≡ Some below) × IsBroken before now level below))

-- how often a number stands in a list
abbrev pub times : ℕ → List ℕ → ℕ
times q [] = 0
times q (n ∷ ns) = (if n == q then 1 else 0) + times q ns
