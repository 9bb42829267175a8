use Rattle.std.proofs.Common.{◌≡◌, ◌++◌, drop, take}
use Rattle.sg_actions.specs.Rows.{placed}
use Rattle.sg_actions.proofs.rows.place.Given as goal

-- the row is not among those that were seen
abbrev pub invariant-loop-i : goal.invariant-loop-i
invariant-loop-i l = record { rows : l.rows ≡ l.fn.rows; rest : placed l.fn.rows l.fn.txn.0 l.fn.row ≡ take l.i l.fn.rows ++ placed (drop l.i l.fn.rows) l.fn.txn.0 l.fn.row }
