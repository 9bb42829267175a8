use Rattle.std.proofs.Common.{◌≡◌, ◌++◌}
use Rattle.std.specs.Prelude.{replicate}
use Rattle.sg_actions.specs.Ending.{vacant}
use Rattle.sg_regained.proofs.sparing.push_spare.Given as goal

-- so many vacant rows stand behind those that were there
abbrev pub invariant-more : goal.invariant-more
invariant-more l = l.rows.items ≡ l.fn.rows.items ++ replicate l._at vacant
