-- The rows of a checkpoint's record.
use Rattle.std.specs.Prelude.{ℕ, ◌==◌, IsPermutation, if◌then◌else◌, List, [], ◌∷◌, ◌++◌}
use Rattle.std.specs.List.Sorted.{IsNonDecreasingBy}
use Rattle.byteorder.specs.Endian.{little_bytes}
use Rattle.sg_actions.specs.declared.rows.Row.{Row}

-- a row: the transaction's number, and that of its last record
abbrev pub row_bytes : Row → List ℕ
row_bytes r = little_bytes 8 r.txn.0 ++ little_bytes 8 r.last

-- the rows that aren't vacant
abbrev pub rows_bytes : List Row → List ℕ
rows_bytes [] = []
rows_bytes (r ∷ rows) = if r.txn.0 == 0 then rows_bytes rows else row_bytes r ++ rows_bytes rows

-- A CHECKPOINT NAMES the transactions of these rows that aren't vacant, in the order of their numbers, which is that in which they began
pub record NamesGoing (rows : List Row) (names : List ℕ → Type 0) : Type 0 where
  pub ordered : List Row
  pub same : IsPermutation rows ordered
  pub rising : IsNonDecreasingBy (λ r. r.txn.0) ordered
  pub named : names (rows_bytes ordered)
