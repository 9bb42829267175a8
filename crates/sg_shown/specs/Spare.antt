-- ROOM FOR TRANSACTIONS in the rows of a space over an engine.
use Rattle.std.specs.Prelude.{◌≡◌, ◌≢◌, ℕ, ◌≤◌, true, false, List, [], ◌∷◌, ◌++◌, length}
use Rattle.sg_recovery.specs.Log.{tally, is_in}
use Rattle.sg_actions.specs.Rows.{HasRow}
use Rattle.sg_actions.specs.Steps.{Steps}
use Rattle.sg_actions.specs.declared.rows.Row.{Row}

-- each of these rows is vacant, or of a transaction that goes on
abbrev pub AreGoing : Steps → List Row → Type 0
AreGoing rs rows = (u : ℕ) → u ≢ 0 → HasRow rows u → is_in u (tally rs).live ≡ true

-- THE ROWS: some that an opening left, then at least 64 of which each is vacant or of a transaction that goes on, and a last one, which is of none that
-- goes on
pub record HasSpare (rs : Steps) (rows : List Row) : Type 0 where
  pub old : List Row
  pub front : List Row
  pub last : Row
  pub are : rows ≡ old ++ (front ++ last ∷ [])
  pub many : 64 ≤ length front
  pub going : AreGoing rs front
  pub gone : is_in last.txn.0 (tally rs).live ≡ false
