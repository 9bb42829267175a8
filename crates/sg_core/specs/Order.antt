-- Live transactions put in the order of their numbers.
use Rattle.std.specs.Prelude.{ℕ, Bool, true, nat_lt, cond, List, [], ◌∷◌, Option, Some, None}
use Rattle.sg_serial.specs.Locks.{lesser}
use Rattle.sg_core.specs.Live.{Txn}

-- put behind those with smaller numbers
abbrev pub placed : Txn → List Txn → List Txn
placed x [] = x ∷ []
placed x (y ∷ ys) = cond (nat_lt y.transaction x.transaction) (y ∷ placed x ys) (x ∷ y ∷ ys)

abbrev pub in_order : List Txn → List Txn
in_order [] = []
in_order (x ∷ xs) = placed x (in_order xs)

-- the least number of those that pass
abbrev pub least_number : (Txn → Bool) → List Txn → Option ℕ
least_number p [] = None
least_number p (x ∷ xs) = cond (p x) (lesser x.transaction (least_number p xs)) (least_number p xs)

-- above the bound, if there is one
abbrev pub is_above : Option ℕ → ℕ → Bool
is_above None n = true
is_above (Some m) n = nat_lt m n
