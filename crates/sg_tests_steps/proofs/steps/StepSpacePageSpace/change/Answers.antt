use Rattle.std.proofs.Common.{arith}
use Rattle.sg_tests_steps.proofs.Going.{changed_goes}
use Rattle.sg_tests_steps.specs.Steps.Goes.{stays}
use Rattle.sg_tests_steps.proofs.steps.StepSpacePageSpace.change.Goals as goal

pub returns-then-self-eq0-clause-later : goal.returns-then-self-eq0-clause-later
returns-then-self-eq0-clause-later g c = record { pages = λ p. stays; left = omega arith; faults = c.count_fault.ensures.later }

pub returns-clause-later : goal.returns-clause-later
returns-clause-later g c = let h = c.requires.can tt in record { pages = λ p. changed_goes _ h.what h.is h.has.fits (c.in_ok-change.ensures.did.pages tt) p; left = omega arith; faults = omega arith }
