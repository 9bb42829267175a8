use Rattle.std.proofs.Common.{arith}
use Rattle.sg_tests_steps.proofs.Knowing.{can_take}
use Rattle.sg_tests_steps.proofs.buckets.make.Goals as goal

pub make-requires : goal.make-requires
make-requires c = λ told. can_take c.args.space.now c.requires (omega arith)
