use Rattle.std.proofs.Common.{◌≡◌, ◌==◌, drop}
use Rattle.std.specs.List.{find}
use Rattle.sg_actions.proofs.rows.last_in.Given as goal

-- the row is not among those that were seen
abbrev pub invariant-loop-row : goal.invariant-loop-row
invariant-loop-row l = find (λ row. row.txn.0 == l.txn.0) (drop l.row-index l.rows) ≡ find (λ row. row.txn.0 == l.txn.0) l.rows
