-- Entries, each a key with its value, and the cells that hold them.
use Rattle.std.specs.Prelude.{◌≡◌, ℕ, ◌+◌, ◌≤◌, List, [], ◌∷◌, ◌++◌, length, take, drop, if◌then◌else◌, Option, Some, None}
use Rattle.std.specs.List.{sum_by, count_by}
use Rattle.std.specs.Str.{bytes_eq}
use Rattle.byteorder.specs.Endian.{little_bytes, little_number}

pub record Entry : Type 0 where
  pub key : List ℕ
  pub value : List ℕ

-- a key has at most 128 bytes and a value at most 1,024
pub record IsSmall (e : Entry) : Type 0 where
  pub key : length e.key ≤ 128
  pub value : length e.value ≤ 1024

-- the cell of an entry: the two lengths, of 2 bytes each, the key and the value
abbrev pub cell_of : Entry → List ℕ
cell_of e = little_bytes 2 (length e.key) ++ (little_bytes 2 (length e.value) ++ (e.key ++ e.value))

-- the lengths that a cell says
abbrev pub key_size : List ℕ → ℕ
key_size cell = little_number 2 cell

abbrev pub value_size : List ℕ → ℕ
value_size cell = little_number 2 (drop 2 cell)

-- the entry that stands in a cell
abbrev pub entry_in : List ℕ → Entry
entry_in cell = record { key = take (key_size cell) (drop 4 cell); value = drop (4 + key_size cell) cell }

-- a cell that holds an entry
pub record IsEntryCell (cell : List ℕ) : Type 0 where
  pub whole : 4 + (key_size cell + value_size cell) ≡ length cell
  pub key : key_size cell ≤ 128
  pub value : value_size cell ≤ 1024

-- the bytes of an entry: 4, its key and its value
abbrev pub entry_size : Entry → ℕ
entry_size e = 4 + (length e.key + length e.value)

-- what the first entry with this key has for a value
abbrev pub value_of : List Entry → List ℕ → Option (List ℕ)
value_of [] key = None
value_of (e ∷ es) key = if bytes_eq e.key key then Some e.value else value_of es key

-- a map with another value, or with none, at one key
abbrev pub with_value : (List ℕ → Option (List ℕ)) → List ℕ → Option (List ℕ) → List ℕ → Option (List ℕ)
with_value values key value other = if bytes_eq key other then value else values other

-- each key is that of one entry at most
abbrev pub AreOnce : List Entry → Type 0
AreOnce es = (key : List ℕ) → count_by (λ e. bytes_eq e.key key) es ≤ 1

-- The second list has the entries of the first but for `gone`, which it had, and `come` besides. The order is left open:
-- it's said by what each way of counting finds.
pub record AreExchanged (old new gone come : List Entry) : Type 0 where
  pub had : (f : Entry → ℕ) → sum_by f gone ≤ sum_by f old
  pub sums : (f : Entry → ℕ) → sum_by f new + sum_by f gone ≡ sum_by f old + sum_by f come
