use Rattle.sg_bucket.proofs.Changing.{set_can, set_did}
use Rattle.sg_bucket.proofs.change.set_over.Goals as goal

pub change-requires-clause-can : goal.change-requires-clause-can
change-requires-clause-can g c = λ told. let h = c.requires.there told in set_can h.1 h.2

pub returns-clause-did : goal.returns-clause-did
returns-clause-did g c = set_did {place = c.args.place} c.requires.cell c.in_ok-change.ensures.did
