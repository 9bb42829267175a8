use Rattle.sg_tests_steps.proofs.Knowing.{can_push}
use Rattle.sg_tests_steps.proofs.arrays.push.Goals as goal

pub push-requires-clause-can : goal.push-requires-clause-can
push-requires-clause-can g c = λ told. let h = c.requires.there tt in (h.0, h.1, can_push c.args.space.now h.2)
