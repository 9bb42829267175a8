use Rattle.std.proofs.Common.{drop}
use Rattle.sg_actions.proofs.Rowed.{AreSpelled}
use Rattle.sg_actions.proofs.checkpoints.spell_rows.Given as goal

-- the rows that were seen are spelled
abbrev pub invariant-loop-row : goal.invariant-loop-row
invariant-loop-row l = AreSpelled l.rows (drop l.row-index l.rows) l.into l.size
