use Rattle.sg_tests_steps.proofs.Knowing.{can_push_item}
use Rattle.sg_tests_steps.proofs.lists.push.Goals as goal

pub push-requires-clause-can : goal.push-requires-clause-can
push-requires-clause-can g c = λ told. let h = c.requires.there tt in (h.0, h.1, can_push_item c.args.space.now h.2)
