-- The last record of each transaction.
use Rattle.std.specs.Prelude.{◌≡◌, ◌≢◌, ℕ, ◌==◌, if◌then◌else◌, List, [], ◌∷◌, Option, None, option_map, IsSome}
use Rattle.std.specs.List.{find}
use Rattle.sg_base.specs.declared.numbers.TxnId.{TxnId}
use Rattle.sg_actions.specs.declared.rows.Actor.{Actor}
use Rattle.sg_actions.specs.declared.rows.Row.{Row}

-- the last record of a transaction, as the rows say it. A row of transaction 0 is vacant
abbrev pub last_in : List Row → ℕ → Option ℕ
last_in rows t = option_map (λ r. r.last) (find (λ r. r.txn.0 == t) rows)

abbrev pub HasRow : List Row → ℕ → Type 0
HasRow rows t = IsSome (last_in rows t)

-- no transaction has two rows
abbrev pub AreApart : List Row → Type 0
AreApart [] = Unit {0}
AreApart (r ∷ rows) = (r.txn.0 ≢ 0 → last_in rows r.txn.0 ≡ None) × AreApart rows

-- the rows with another in place of the first one of a transaction
abbrev pub placed : List Row → ℕ → Row → List Row
placed [] t row = []
placed (r ∷ rows) t row = if r.txn.0 == t then row ∷ rows else r ∷ placed rows t row

-- the rows once a transaction has another last record. The system, which is 0, has no row
abbrev pub rows_after : List Row → (txn : TxnId) → (lsn : ℕ) → List Row
rows_after rows txn lsn = if txn.0 == 0 then rows else placed rows txn.0 (record { txn = txn; last = lsn })

-- who acts where no action is open
abbrev pub at_rest : Actor
at_rest = record { txn = record { 0 = 0 }; last = 0; before = 0 }
