use Rattle.std.proofs.Common.{◌*◌}
use Rattle.sg_redo.specs.Well.{AreWellBelow}
use Rattle.sg_redo.proofs.check.check_pages.Given as goal

abbrev pub invariant-parts : goal.invariant-parts
invariant-parts g l = AreWellBelow l.loans (l.n * l.size)
