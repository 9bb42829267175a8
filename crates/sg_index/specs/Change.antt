-- What a change of an index does to a part of its tree: to what it holds, to the numbers of its nodes, and to the records.
use Rattle.std.specs.Prelude.{◌≡◌, ◌≢◌, ℕ, zero, suc, ◌+◌, ◌-◌, ◌/◌, ◌<◌, ◌≤◌, ◌^◌, ◌==◌, ◌⊎◌, if◌then◌else◌, nat_lt, Bool, true, false, List, [], ◌∷◌, ◌++◌, length, take, drop, Option, Some, None, is_some, filter, find, get_or, set, remove}
use Rattle.std.specs.Ordering.{is_lt, is_gt, is_eq}
use Rattle.std.specs.List.{flat_map, AllByRecursion}
use Rattle.sg_index.specs.declared.header.Header.{Header}
use Rattle.sg_index.specs.declared.item.Item.{Item}
use Rattle.sg_index.specs.Order.{key_cmp, IsBelow, Entry, value_in, is_from}
use Rattle.sg_index.specs.Node.{entry, spelled, AreFit}
use Rattle.sg_index.specs.Records.{Map, Puts, Dels}
use Rattle.sg_index.specs.Tree.{Mark, Rises, entries_in, Child, marks_in, numbers_in, IsChild, fewest, first_key, Holds, node_key, node_at, times}
use Rattle.sg_index.specs.Index.{header_key, header_at, spelled_header, count_at}

-- the entries, with these in the place of the one that has the key
abbrev pub edited : List Entry → List ℕ → List Entry → List Entry
edited entries key middle = filter (λ e. is_lt (key_cmp e.0 key)) entries ++ (middle ++ filter (λ e. is_gt (key_cmp e.0 key)) entries)

-- whether an entry has the key
abbrev pub knows : List Entry → List ℕ → Bool
knows entries key = is_some (value_in entries key)

-- each of these marks is below a key
abbrev pub AreUnder : List ℕ → List Mark → Type 0
AreUnder above marks = AllByRecursion (λ m. IsBelow m.key above) marks

-- The marks of a part of a tree in which the entry of a key is another one, or is there no longer. They stay below whatever the
-- others were below.
pub record IsEdited (key : List ℕ) (middle : List Entry) (known : Bool) (old new : List Mark) : Type 0 where
  pub rises : Rises new
  pub told : known ≡ knows (entries_in old) key
  pub entries : entries_in new ≡ edited (entries_in old) key middle
  pub under : (above : List ℕ) → IsBelow key above → AreUnder above old → AreUnder above new

-- The marks of a part of a tree whose nodes were divided or joined: other separators, and the same entries.
pub record IsMarkedAnew (old new : List Mark) : Type 0 where
  pub rises : Rises new
  pub entries : entries_in new ≡ entries_in old
  pub under : (above : List ℕ) → AreUnder above old → AreUnder above new

-- No number stands twice in a part of a tree, each has its record, and no number from `next` on has one.
pub record AreNumbered (records : Map) (next : ℕ) (numbers : List ℕ) : Type 0 where
  pub once : (q : ℕ) → q < 2 ^ 32 → times q numbers ≤ count_at records q
  pub free : (q : ℕ) → q < 2 ^ 32 → next ≤ q → count_at records q ≡ 0

-- The nodes of a part of a tree have other numbers now: each that is new has a record, and each that went has none. No other
-- record changed, but for those of numbers from `from` to before `to`.
pub record AreRenumbered (old new : Map) (from to : ℕ) (before after : List ℕ) : Type 0 where
  pub counts : (q : ℕ) → q < 2 ^ 32 → times q after + count_at old q ≡ times q before + count_at new q
  pub kept : (q : ℕ) → q < 2 ^ 32 → times q before ≡ 0 → (q < from ⊎ to ≤ q) → new (node_key q) ≡ old (node_key q)
  pub others : (key : List ℕ) → ((q : ℕ) → q < 2 ^ 32 → key ≢ node_key q) → new key ≡ old key
  pub later : from ≤ to

-- A node in memory, so many levels above the leaves, and the records of the nodes below it, once the entry of a key was put there
-- or taken away.
pub record IsChanged (key : List ℕ) (middle : List Entry) (known : Bool) (old new : Map) (from to level : ℕ) (sep : List ℕ) (marks : List Mark) (numbers : List ℕ) (items : List Item) : Type 0 where
  pub marks_now : List Mark
  pub numbers_now : List ℕ
  pub holds : Holds new level sep items marks_now numbers_now
  pub edited : IsEdited key middle known marks marks_now
  pub renumbered : AreRenumbered old new from to numbers numbers_now

-- the same items, of which the first has another key
abbrev pub with_first : List ℕ → List Item → List Item
with_first key [] = []
with_first key (i ∷ is) = record i { key = key } ∷ is

-- in an inner node the first item has this key then, and a leaf stays
abbrev pub with_key : Bool → List ℕ → List Item → List Item
with_key true key items = items
with_key false key items = with_first key items

-- the items of a node that are the right ones of another: the first child of an inner node has no separator in its node
abbrev pub opened : Bool → List Item → List Item
opened leaf items = with_key leaf [] items

-- the items of two nodes in one, with the separator that stood between them
abbrev pub joined : Bool → List Item → List ℕ → List Item → List Item
joined leaf left sep right = left ++ with_key leaf sep right

-- what a node of so many items more than it may have is divided into: its items before the middle and those from there on
abbrev pub half : List Item → ℕ
half items = length items / 2

-- Nodes in memory were written, divided or joined where they had too many items or too few, and these children of a node hold now
-- what they held.
pub record AreStored (old new : Map) (from to level : ℕ) (key : List ℕ) (marks : List Mark) (numbers : List ℕ) (children : List Child) : Type 0 where
  pub each : AllByRecursion (IsChild new (level == 0) (Holds new level)) children
  pub first : first_key children ≡ Some key
  pub anew : IsMarkedAnew marks (flat_map marks_in children)
  pub renumbered : AreRenumbered old new from to numbers (flat_map numbers_in children)

-- how many items a node has at most: 14 entries, or 15 children
abbrev pub most : Bool → ℕ
most leaf = if leaf then 14 else 15

-- whether the first entry of a leaf that isn't below a key has that key
abbrev pub has_first : Option Item → List ℕ → Bool
has_first None key = false
has_first (Some i) key = is_eq (key_cmp i.key key)

-- whether a leaf has the entry of a key: its first entry that isn't below the key
unfoldable pub has : List Item → List ℕ → Bool
has items key = has_first (find (λ i. is_from key false i.key) items) key

-- the child of an inner node below which a key belongs: that of the last separator that isn't above the key
abbrev pub way_from : ℕ → List Item → List ℕ → ℕ
way_from child [] key = child
way_from child (i ∷ is) key = if is_lt (key_cmp key i.key) then child else way_from i.child is key

unfoldable pub way : List Item → List ℕ → ℕ
way [] key = 0
way (i ∷ is) key = way_from i.child is key

-- 1 where a node with so many items is divided, and else 0
abbrev pub divided : Bool → ℕ → ℕ
divided leaf n = if nat_lt (most leaf) n then 1 else 0

abbrev pub with_node : Option (List Item) → (List Item → ℕ) → ℕ
with_node None f = 0
with_node (Some items) f = f items

-- How many items a node has, so many levels above the leaves, once an entry of this key was put into it or below it, and before
-- it is divided.
abbrev pub put_size : Map → ℕ → List Item → List ℕ → ℕ
put_size records zero items key = length items + (if has items key then 0 else 1)
put_size records (suc level) items key = length items + with_node (node_at records (level == 0) (way items key)) (λ below. divided (level == 0) (put_size records level below key))

-- and how many nodes below it are divided then
abbrev pub put_new : Map → ℕ → List Item → List ℕ → ℕ
put_new records zero items key = 0
put_new records (suc level) items key = with_node (node_at records (level == 0) (way items key)) (λ below. put_new records level below key + divided (level == 0) (put_size records level below key))

-- the first half of these items was written as one node, and the others as another one
pub record AreHalves (old new : Map) (leaf : Bool) (items : List Item) (left right : ℕ) (sep : List ℕ) : Type 0 where
  pub between : Map
  pub left_put : Puts old (node_key left) (spelled leaf (take (half items) items)) between
  pub right_put : Puts between (node_key right) (spelled leaf (opened leaf (drop (half items) items))) new
  pub separator_is : (d : Item) → sep ≡ (get_or items (half items) d).key

-- the record of a node was written, or there was nothing to write
abbrev pub IsWritten : Bool → Map → Map → ℕ → List ℕ → Type 0
IsWritten true old new number value = Puts old (node_key number) value new
IsWritten false old new number value = new ≡ old

-- How many new nodes an entry of this key makes, in a tree whose root has these items: one for each node that is divided, and
-- one more where that is the root.
abbrev pub all_new : Map → ℕ → List Item → List ℕ → ℕ
all_new records level items key = put_new records level items key + (if nat_lt (most (level == 0)) (put_size records level items key) then 2 else 0)

-- the number of a new node that an entry of this key makes would pass 4,294,967,294
abbrev pub IsFull : Map → List ℕ → Type 0
IsFull records key =
    (h : Header) × (items : List Item) × (header_at records ≡ Some h) × (node_at records ((h.height - 1) == 0) h.root ≡ Some items)
    × (4294967295 < h.next + all_new records (h.height - 1) items key)

-- the record `h` says this now, and no other changed
pub record IsHeaded (old new : Map) (h : Header) : Type 0 where
  pub header_is : header_at new ≡ Some h
  pub others : (key : List ℕ) → key ≢ header_key → new key ≡ old key

-- The root was divided: its first half keeps its number, the others get the next one, and the number behind that is the new root's.
pub record IsGrown (old new : Map) (leaf : Bool) (items : List Item) (h : Header) (next : ℕ) : Type 0 where
  pub between : Map
  pub above : Map
  pub branch : Item
  pub halves : AreHalves old between leaf items h.root next branch.key
  pub value : branch.value ≡ []
  pub child : branch.child ≡ next
  pub top : Puts between (node_key (next + 1)) (spelled false (record { key = []; value = []; child = h.root } ∷ (branch ∷ []))) above
  pub header : Puts above header_key (spelled_header (record { root = next + 1; next = next + 2; height = h.height + 1 })) new
  pub small : next + 2 ≤ 4294967295

-- The first entry of an index: its leaf has number 1.
pub record IsBegun (old new : Map) (key value : List ℕ) : Type 0 where
  pub between : Map
  pub node : Puts old (node_key 1) (spelled true (entry key value ∷ [])) between
  pub header : Puts between header_key (spelled_header (record { root = 1; next = 2; height = 1 })) new

-- the number of the child at a place, and the separator left of it
abbrev pub no_item : Item
no_item = record { key = []; value = []; child = 0 }

abbrev pub number_at : List Item → ℕ → ℕ
number_at items n = (get_or items n no_item).child

abbrev pub key_at : List Item → ℕ → List ℕ
key_at items n = (get_or items n no_item).key

-- two children at a place and behind it became one, of these items
pub record IsOneNow (old new : Map) (leaf : Bool) (items node : List Item) (at : ℕ) (after : List Item) : Type 0 where
  pub between : Map
  pub put : Puts old (node_key (number_at node at)) (spelled leaf items) between
  pub gone : Dels between (node_key (number_at node (at + 1))) new
  pub few : length items ≤ most leaf
  pub after_is : after ≡ remove node (at + 1)

-- or they share these items anew
pub record AreTwoNow (old new : Map) (leaf : Bool) (items node : List Item) (at : ℕ) (after : List Item) : Type 0 where
  pub sep : List ℕ
  pub many : most leaf < length items
  pub halves : AreHalves old new leaf items (number_at node at) (number_at node (at + 1)) sep
  pub after_is : after ≡ set node (at + 1) (record (get_or node (at + 1) no_item) { key = sep })

abbrev pub IsSettled : Map → Map → Bool → List Item → List Item → ℕ → List Item → Type 0
IsSettled old new leaf items node at after = IsOneNow old new leaf items node at after ⊎ AreTwoNow old new leaf items node at after

-- a node's child at a place, with these items in memory, was joined with the one right of it, or they share their items anew
pub record IsJoinedRight (old new : Map) (leaf : Bool) (child node : List Item) (at : ℕ) (after : List Item) : Type 0 where
  pub right : List Item
  pub there : node_at old leaf (number_at node (at + 1)) ≡ Some right
  pub enough : fewest leaf ≤ length right
  pub fit : AreFit leaf right
  pub few : length right ≤ 15
  pub settled : IsSettled old new leaf (joined leaf child (key_at node (at + 1)) right) node at after

-- the same of the child behind a place, with the one left of it
pub record IsJoinedLeft (old new : Map) (leaf : Bool) (child node : List Item) (at : ℕ) (after : List Item) : Type 0 where
  pub left : List Item
  pub there : node_at old leaf (number_at node at) ≡ Some left
  pub enough : fewest leaf ≤ length left
  pub fit : AreFit leaf left
  pub few : length left ≤ 15
  pub settled : IsSettled old new leaf (joined leaf left (key_at node (at + 1)) child) node at after

-- The root has one child, and that is the root now: the record of the old one is gone.
pub record IsLowered (old new : Map) (h : Header) (child : ℕ) : Type 0 where
  pub between : Map
  pub gone : Dels old (node_key h.root) between
  pub header : Puts between header_key (spelled_header (record { root = child; next = h.next; height = h.height - 1 })) new
