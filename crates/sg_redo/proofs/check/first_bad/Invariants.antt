use Rattle.sg_redo.specs.Well.{AreWellBelow}
use Rattle.sg_redo.proofs.check.first_bad.Given as goal

abbrev pub invariant-loans : goal.invariant-loans
invariant-loans l = AreWellBelow l.loans l.i
