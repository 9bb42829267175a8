-- The live transactions, as a list in the order of their numbers.
use Rattle.std.specs.Prelude.{ℕ, ◌+◌, ◌-◌, Bool, true, false, not, ◌==◌, ◌&&◌, nat_lt, if◌then◌else◌, List, [], map, Option, Some, None}
use Rattle.std.specs.List.{filter, list_any, find}
use Rattle.sg_base.specs.declared.numbers.TxnId.{TxnId}

-- a live transaction: its number, how much it has reserved, whether it has dropped something, and the log's numbers at its marks
pub record Txn : Type 0 where
  pub transaction : ℕ
  pub reserved : ℕ
  pub dropped : Bool
  pub marks : List ℕ

-- a transaction that has just begun
abbrev pub begun : ℕ → Txn
begun t = record { transaction = t; reserved = 0; dropped = false; marks = [] }

abbrev pub is_of : ℕ → Txn → Bool
is_of t x = x.transaction == t

abbrev pub is_live : List Txn → ℕ → Bool
is_live xs t = list_any (is_of t) xs

-- all but this one
abbrev pub without : ℕ → List Txn → List Txn
without t xs = filter (λ x. not (is_of t x)) xs

-- this one is live and has reserved some
abbrev pub has_reserved : List Txn → ℕ → Bool
has_reserved xs t = list_any (λ x. is_of t x && nat_lt 0 x.reserved) xs

-- the same ones, of which this one has reserved one more
abbrev pub one_more : Txn → Txn
one_more x = record x { reserved = x.reserved + 1 }

abbrev pub one_less : Txn → Txn
one_less x = record x { reserved = x.reserved - 1 }

abbrev pub reserving : ℕ → List Txn → List Txn
reserving t xs = map (λ x. if is_of t x then one_more x else x) xs

-- the same ones, of which this one has reserved one less
abbrev pub unreserving : ℕ → List Txn → List Txn
unreserving t xs = map (λ x. if is_of t x then one_less x else x) xs

-- this one is live and has dropped something
abbrev pub has_dropped : List Txn → ℕ → Bool
has_dropped xs t = list_any (λ x. is_of t x && x.dropped) xs

-- the same ones, of which this one has dropped something
abbrev pub a_dropper : Txn → Txn
a_dropper x = record x { dropped = true }

abbrev pub dropping : ℕ → List Txn → List Txn
dropping t xs = map (λ x. if is_of t x then a_dropper x else x) xs

-- the marks of a live transaction
abbrev pub marks_in : Option Txn → List ℕ
marks_in None = []
marks_in (Some x) = x.marks

abbrev pub marks_of : List Txn → ℕ → List ℕ
marks_of xs t = marks_in (find (is_of t) xs)

-- the same ones, of which this one has other marks
abbrev pub with_marks : (List ℕ → List ℕ) → Txn → Txn
with_marks f x = record x { marks = f x.marks }

abbrev pub remarking : ℕ → (List ℕ → List ℕ) → List Txn → List Txn
remarking t f xs = map (λ x. if is_of t x then with_marks f x else x) xs

abbrev pub number_of : Txn → TxnId
number_of x = record { 0 = x.transaction }
