use Rattle.sg_tests_steps.proofs.Knowing.{has_five}
use Rattle.sg_tests_steps.proofs.tables.make.Goals as goal

pub make-requires-clause-can : goal.make-requires-clause-can
make-requires-clause-can g c = λ told. has_five c.args.space.now c.requires.room
