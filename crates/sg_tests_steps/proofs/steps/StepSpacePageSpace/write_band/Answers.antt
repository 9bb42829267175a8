use Rattle.std.proofs.Common.{arith}
use Rattle.sg_tests_steps.proofs.Going.{pages_go}
use Rattle.sg_tests_steps.specs.Steps.Goes.{stays}
use Rattle.sg_tests_steps.proofs.steps.StepSpacePageSpace.write_band.Goals as goal

pub returns-then-self-eq0-clause-later : goal.returns-then-self-eq0-clause-later
returns-then-self-eq0-clause-later c = λ t. record { pages = λ p. stays; left = omega arith; faults = c.count_fault.ensures.later }

pub returns-clause-later : goal.returns-clause-later
returns-clause-later c = λ t. record { pages = λ p. pages_go (c.in_ok-write_band.ensures.did.pages tt) p; left = omega arith; faults = omega arith }
