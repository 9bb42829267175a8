-- The bytes of a node, and what they are read as.
use Rattle.std.specs.Prelude.{◌≡◌, ℕ, zero, suc, ◌+◌, ◌-◌, ◌<◌, ◌≤◌, ◌^◌, nat_le, ◌==◌, ◌&&◌, if◌then◌else◌, Bool, true, false, List, [], ◌∷◌, ◌++◌, length, drop, Option, Some, None}
use Rattle.std.specs.List.{flat_map, AllByRecursion}
use Rattle.byteorder.specs.Endian.{little_bytes}
use Rattle.sg_base.specs.Forms.{read_on, read_number, read_text, ended}
use Rattle.sg_index.specs.declared.item.Item.{Item}

-- an entry of a leaf
abbrev pub entry : List ℕ → List ℕ → Item
entry key value = record { key = key; value = value; child = 0 }

-- a child of an inner node, with the separator left of it
abbrev pub branch : List ℕ → ℕ → Item
branch key child = record { key = key; value = []; child = child }

-- how an entry is spelled: both lengths, the key and the value
abbrev pub spelled_entry : Item → List ℕ
spelled_entry i = little_bytes 1 (length i.key) ++ little_bytes 1 (length i.value) ++ i.key ++ i.value

-- how a separator is spelled: its length and its bytes
abbrev pub spelled_separator : Item → List ℕ
spelled_separator i = little_bytes 1 (length i.key) ++ i.key

abbrev pub spelled_child : Item → List ℕ
spelled_child i = little_bytes 4 i.child

-- A leaf: byte 0, how many entries there are, and the entries.
unfoldable pub spelled_leaf : List Item → List ℕ
spelled_leaf items = little_bytes 1 0 ++ little_bytes 1 (length items) ++ flat_map spelled_entry items

-- An inner node: byte 1, how many separators there are, the children, one more than these, and the separators.
unfoldable pub spelled_inner : List Item → List ℕ
spelled_inner items = little_bytes 1 1 ++ little_bytes 1 (length items - 1) ++ flat_map spelled_child items ++ flat_map spelled_separator (drop 1 items)

abbrev pub spelled : Bool → List Item → List ℕ
spelled true items = spelled_leaf items
spelled false items = spelled_inner items

-- the items that were read, and behind them the entry at the front of some bytes, if neither its key nor its value has
-- more than 64, and what stands behind it
unfoldable pub read_entry : List Item → List ℕ → Option (List Item × List ℕ)
read_entry items bytes =
    read_on (read_number 1 bytes) (λ k bytes. read_on (read_number 1 bytes) (λ v bytes. read_on (read_text k bytes) (λ key bytes. read_on (read_text v bytes) (λ value rest.
    if nat_le (length key) 64 && nat_le (length value) 64 then Some (items ++ entry key value ∷ [], rest) else None))))

-- the same with the branch to a child, whose separator stands at the front of some bytes
unfoldable pub read_branch : List Item → ℕ → List ℕ → Option (List Item × List ℕ)
read_branch items child bytes = read_on (read_number 1 bytes) (λ k bytes. read_on (read_text k bytes) (λ key rest. if nat_le (length key) 64 then Some (items ++ branch key child ∷ [], rest) else None))

-- so many entries more
abbrev pub read_entries : List Item → ℕ → List ℕ → Option (List Item × List ℕ)
read_entries items zero bytes = Some (items, bytes)
read_entries items (suc n) bytes = read_on (read_entry items bytes) (λ items rest. read_entries items n rest)

-- so many numbers of children more
abbrev pub read_children : List ℕ → ℕ → List ℕ → Option (List ℕ × List ℕ)
read_children children zero bytes = Some (children, bytes)
read_children children (suc n) bytes = read_on (read_number 4 bytes) (λ child rest. read_children (children ++ child ∷ []) n rest)

-- the separator left of each of these children, which stand behind those that were read
abbrev pub read_branches : List Item → List ℕ → List ℕ → Option (List Item × List ℕ)
read_branches items [] bytes = Some (items, bytes)
read_branches items (child ∷ children) bytes = read_on (read_branch items child bytes) (λ items rest. read_branches items children rest)

-- the branches to some children, of which the first has no separator
abbrev pub with_separators : List ℕ → List ℕ → Option (List Item × List ℕ)
with_separators [] bytes = None
with_separators (child ∷ children) bytes = read_branches (branch [] child ∷ []) children bytes

-- a count of at most 14 behind a first byte, the tag
unfoldable pub read_head : ℕ → List ℕ → Option (ℕ × List ℕ)
read_head tag bytes =
    read_on (read_number 1 bytes) (λ t bytes. read_on (read_number 1 bytes) (λ count rest. if t == tag && nat_le count 14 then Some (count, rest) else None))

unfoldable pub read_leaf : List ℕ → Option (List Item)
read_leaf bytes = read_on (read_head 0 bytes) (λ count bytes. read_on (read_entries [] count bytes) ended)

unfoldable pub read_inner : List ℕ → Option (List Item)
read_inner bytes = read_on (read_head 1 bytes) (λ count bytes. read_on (read_children [] (count + 1) bytes) (λ children bytes. read_on (with_separators children bytes) ended))

-- the items of the node that some bytes are: a leaf or an inner node
abbrev pub read_node : Bool → List ℕ → Option (List Item)
read_node true bytes = read_leaf bytes
read_node false bytes = read_inner bytes

-- an item as one of a leaf has to be
pub record IsEntry (i : Item) : Type 0 where
  pub key : length i.key ≤ 64
  pub value : length i.value ≤ 64
  pub child : i.child ≡ 0

-- an item as one of an inner node has to be, behind the first
pub record IsBranch (i : Item) : Type 0 where
  pub key : length i.key ≤ 64
  pub value : i.value ≡ []
  pub child : i.child < 2 ^ 32

-- branches of which the first has no separator
abbrev pub AreBranches : List Item → Type 0
AreBranches [] = Unit {0}
AreBranches (i ∷ is) = (i.key ≡ []) × IsBranch i × AllByRecursion IsBranch is

-- items that may stand in a node of this kind
abbrev pub AreFit : Bool → List Item → Type 0
AreFit true items = AllByRecursion IsEntry items
AreFit false items = AreBranches items

-- how many items a record of this kind may have
abbrev pub CanBe : Bool → ℕ → Type 0
CanBe true n = n ≤ 14
CanBe false n = (1 ≤ n) × (n ≤ 15)
