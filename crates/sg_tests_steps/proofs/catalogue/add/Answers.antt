use Rattle.sg_tests_steps.proofs.Knowing.{can_add}
use Rattle.sg_tests_steps.proofs.catalogue.add.Goals as goal

pub add-requires-clause-can : goal.add-requires-clause-can
add-requires-clause-can g c = λ told. let h = c.requires.there tt in (h.0, h.1, can_add c.args.space.now h.2)
