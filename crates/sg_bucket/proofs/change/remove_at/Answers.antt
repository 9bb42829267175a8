use Rattle.sg_bucket.proofs.Changing.{remove_can, remove_did}
use Rattle.sg_bucket.proofs.change.remove_at.Goals as goal

pub change-requires-clause-can : goal.change-requires-clause-can
change-requires-clause-can g c = λ told. let h = c.requires.can told in remove_can h.1 h.2

pub returns-clause-did : goal.returns-clause-did
returns-clause-did g c = remove_did {place = c.args.place} c.in_ok-change.ensures.did
