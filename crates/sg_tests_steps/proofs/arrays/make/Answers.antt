use Rattle.std.proofs.Common.{arith}
use Rattle.sg_tests_steps.proofs.Knowing.{can_take}
use Rattle.sg_tests_steps.proofs.arrays.make.Goals as goal

pub make-requires-clause-free : goal.make-requires-clause-free
make-requires-clause-free g c = λ told. can_take c.args.space.now c.requires.room (omega arith)
