-- What a log is still asked for whose front may be cut off.
use Rattle.std.specs.Prelude.{◌≡◌, ℕ, ◌≤◌, true, List, Option, Some, None}
use Rattle.sg_base.specs.declared.numbers.TxnId.{TxnId}
use Rattle.sg_recovery.specs.Laws.{Each}
use Rattle.sg_recovery.specs.Log.{tally, is_in}
use Rattle.sg_actions.specs.Steps.{Steps}

-- no transaction that goes on began before this one, and none goes on where there is none
abbrev pub IsOldest : Option TxnId → List ℕ → Type 0
IsOldest None live = (u : ℕ) → is_in u live ≡ true → ⊥
IsOldest (Some oldest) live = (u : ℕ) → is_in u live ≡ true → oldest.0 ≤ u

-- WHAT IS STILL WANTED of a log stands at its first byte or behind it: the begin of each transaction that goes on, and each open change
pub record HasWanted (start : ℕ) (rs : Steps) : Type 0 where
  pub begun : (u : ℕ) → is_in u (tally rs).live ≡ true → start ≤ u
  pub opened : Each (λ d. start ≤ d.lsn) (tally rs).opened
