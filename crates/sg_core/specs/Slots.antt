-- The live transactions as they stand in the slots of a slab.
use Rattle.std.specs.Prelude.{◌≡◌, ℕ, ◌≤◌, false, List, [], ◌∷◌, length, take, Option, Some, None, sum_by}
use Rattle.std.specs.List.{list_any}
use Rattle.slab.specs.Slab.{Slab, get}
use Rattle.sg_core.specs.declared.marks.Marks.{Marks}
use Rattle.sg_core.specs.declared.txns.Live.{Live}
use Rattle.sg_core.specs.Live.{Txn, is_of}

-- the marks are the first so many of their places
abbrev pub kept_marks : Marks → List ℕ
kept_marks m = take m.count m.at

abbrev pub shown : Live → Txn
shown l = record { transaction = l.transaction.0; reserved = l.reserved; dropped = l.dropped; marks = kept_marks l.marks }

abbrev pub live_of : List (Option Live) → List Txn
live_of [] = []
live_of (None ∷ rest) = live_of rest
live_of (Some l ∷ rest) = shown l ∷ live_of rest

-- no two have one number
abbrev pub AreDistinct : List Txn → Type 0
AreDistinct [] = Unit {0}
AreDistinct (x ∷ xs) = (list_any (is_of x.transaction) xs ≡ false) × AreDistinct xs

-- a slab with room for 64, in which each transaction stands once, and the sum of what they have reserved
pub record IsKept (live : Slab Live) (reserved : ℕ) : Type 0 where
  pub room : 64 ≤ live.capacity
  pub few : length (live_of live.slots) ≤ 64
  pub distinct : AreDistinct (live_of live.slots)
  pub total : reserved ≡ sum_by (λ x. x.reserved) (live_of live.slots)

-- the key has the transaction's entry
pub record HasAt (live : Slab Live) (t key : ℕ) (entry : Live) : Type 0 where
  pub entry_is : get live key ≡ Some entry
  pub number_is : entry.transaction.0 ≡ t
