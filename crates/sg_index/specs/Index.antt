-- An index of an ordered list of entries, as it stands in records.
use Rattle.std.specs.Prelude.{◌≡◌, ◌≢◌, ℕ, ◌-◌, ◌<◌, ◌≤◌, ◌^◌, ◌==◌, ◌&&◌, ◌⊎◌, nat_le, if◌then◌else◌, Bool, List, [], ◌∷◌, ◌++◌, length, take, Option, Some, None, is_some, option_and_then}
use Rattle.std.specs.List.{AllByRecursion}
use Rattle.byteorder.specs.Endian.{little_bytes}
use Rattle.sg_base.specs.Forms.{read_on, read_number, ended}
use Rattle.sg_index.specs.declared.item.Item.{Item}
use Rattle.sg_index.specs.declared.header.Header.{Header}
use Rattle.sg_index.specs.Order.{Entry}
use Rattle.sg_index.specs.Records.{Map}
use Rattle.sg_index.specs.Tree.{Mark, Rises, entries_in, Holds, node_key, node_at, IsNoNode, IsBroken, times}

-- the key of the record that says where the root is: `h`
abbrev pub header_key : List ℕ
header_key = 104 ∷ []

-- The number of the root, the number that a new node gets, and how many levels there are, from 1 to 16: 4 bytes, 4 bytes and 1.
unfoldable pub read_header : List ℕ → Option Header
read_header bytes =
    read_on (read_number 4 bytes) (λ root bytes. read_on (read_number 4 bytes) (λ next bytes. read_on (read_number 1 bytes) (λ height rest.
    if nat_le 1 height && nat_le height 16 then ended (record { root = root; next = next; height = height }) rest else None)))

unfoldable pub header_at : Map → Option Header
header_at records = option_and_then read_header (records header_key)

-- how many items the root has at least: a leaf may have none, and an inner node has 2 children
abbrev pub root_fewest : Bool → ℕ
root_fewest leaf = if leaf then 0 else 2

-- 1 where a node with this number has a record, and else 0
abbrev pub count_at : Map → ℕ → ℕ
count_at records number = if is_some (records (node_key number)) then 1 else 0

-- a key may have 1 to 64 bytes, and a value none to 64
pub record IsEntry (e : Entry) : Type 0 where
  pub some : 1 ≤ length e.0
  pub key : length e.0 ≤ 64
  pub value : length e.1 ≤ 64

-- no records, and no entries
pub record IsEmpty (records : Map) (entries : List Entry) : Type 0 where
  pub none : (key : List ℕ) → records key ≡ None
  pub entries_are : entries ≡ []

-- A tree of nodes that stand in records, each once, and there are no other records. The nodes hold separators and entries, which
-- rise from left to right, and these are the entries.
pub record IsTree (records : Map) (entries : List Entry) : Type 0 where
  pub header : Header
  pub header_is : header_at records ≡ Some header
  pub items : List Item
  pub marks : List Mark
  pub numbers : List ℕ
  pub root : node_at records ((header.height - 1) == 0) header.root ≡ Some items
  pub enough : root_fewest ((header.height - 1) == 0) ≤ length items
  pub holds : Holds records (header.height - 1) [] items marks numbers
  pub rises : Rises marks
  pub entries_are : entries ≡ entries_in marks
  pub each : AllByRecursion IsEntry entries
  pub once : (q : ℕ) → q < 2 ^ 32 → times q (header.root ∷ numbers) ≡ count_at records q
  pub below : (q : ℕ) → header.next ≤ q → times q (header.root ∷ numbers) ≡ 0
  pub from_one : times 0 (header.root ∷ numbers) ≡ 0
  pub others : (key : List ℕ) → key ≢ header_key → ((q : ℕ) → q < 2 ^ 32 → key ≢ node_key q) → records key ≡ None

-- the records are an index of these entries
abbrev pub IsIndex : Map → List Entry → Type 0
IsIndex records entries = IsEmpty records entries ⊎ IsTree records entries

-- the record `h` is there, and isn't one of that form
abbrev pub HasNoHeader : Map → Type 0
HasNoHeader records = (bytes : List ℕ) × (records header_key ≡ Some bytes) × (read_header bytes ≡ None)

-- The record `h` or that of a node, or its absence, isn't in the form of an index: of a node that the records `before` name,
-- starting from `h`, as its record is in `now`.
abbrev pub IsNoIndexNow : Map → Map → Type 0
IsNoIndexNow before now =
    HasNoHeader before
    ⊎ ((h : Header) × (header_at before ≡ Some h)
    × (IsNoNode before ((h.height - 1) == 0) (root_fewest ((h.height - 1) == 0)) h.root
    ⊎ ((items : List Item) × (node_at before ((h.height - 1) == 0) h.root ≡ Some items) × IsBroken before now (h.height - 1) items)))

-- the same where the records are those that were named
abbrev pub IsNoIndex : Map → Type 0
IsNoIndex records = IsNoIndexNow records records

-- what a look for the next entry answers, and leaves at the front of the buffers of its key and its value
abbrev pub IsNext : Option Entry → Option (ℕ × ℕ) → List ℕ → List ℕ → Type 0
IsNext None found key value = found ≡ None
IsNext (Some e) found key value = (found ≡ Some (length e.0, length e.1)) × (take (length e.0) key ≡ e.0) × (take (length e.1) value ≡ e.1)

-- how the record `h` is spelled
unfoldable pub spelled_header : Header → List ℕ
spelled_header h = little_bytes 4 h.root ++ little_bytes 4 h.next ++ little_bytes 1 h.height
