-- Which transactions the rows of a checkpoint's record list.
use Rattle.std.specs.Prelude.{◌≡◌, ◌≢◌, ℕ, true, false, List}
use Rattle.std.specs.List.{Contains}
use Rattle.sg_recovery.specs.Log.{tally, is_in}
use Rattle.sg_recovery.specs.Chains.{last_of}
use Rattle.sg_actions.specs.Steps.{Steps}
use Rattle.sg_actions.specs.TakingOff.{HasCommitted}
use Rattle.sg_actions.specs.declared.rows.Row.{Row}

-- THE ROWS LIST WHO GOES ON. A row of transaction 0 is vacant, and lists nobody
pub record ListsGoing (rs : Steps) (rows : List Row) : Type 0 where
  -- each transaction that goes on is there, with its last record
  pub going : (u : ℕ) → is_in u (tally rs).live ≡ true → Contains rows (record { txn = record { 0 = u }; last = last_of u rs })
  -- each that is there is there with its last record
  pub lasts : (r : Row) → Contains rows r → r.txn.0 ≢ 0 → r.last ≡ last_of r.txn.0 rs
  -- and that is its commit where it doesn't go on
  pub past : (r : Row) → Contains rows r → r.txn.0 ≢ 0 → is_in r.txn.0 (tally rs).live ≡ false → HasCommitted rs r.txn.0 r.last
