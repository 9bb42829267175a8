use Rattle.std.proofs.Common.{arith}
use Rattle.sg_tests_steps.proofs.Knowing.{can_take}
use Rattle.sg_tests_steps.proofs.blobs.make.Goals as goal

pub make-requires-clause-can : goal.make-requires-clause-can
make-requires-clause-can g c = λ told. can_take c.args.space.now c.requires.room (omega arith)
