use Rattle.sg_tests_steps.proofs.Knowing.{can_put_entry}
use Rattle.sg_tests_steps.proofs.buckets.put.Goals as goal

pub put-requires-clause-there : goal.put-requires-clause-there
put-requires-clause-there g c = λ told. let h = c.requires.there tt in (h.0, h.1, can_put_entry c.args.space.now h.2)
