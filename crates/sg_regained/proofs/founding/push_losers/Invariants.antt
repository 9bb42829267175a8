use Rattle.std.proofs.Common.{◌≡◌, take}
use Rattle.std.specs.Prelude.{map}
use Rattle.sg_regained.specs.Regained.{row_of}
use Rattle.sg_regained.proofs.founding.push_losers.Given as goal

abbrev pub invariant-loop-i : goal.invariant-loop-i
invariant-loop-i l = l.rows.items ≡ map row_of (take l.i l.losers)
