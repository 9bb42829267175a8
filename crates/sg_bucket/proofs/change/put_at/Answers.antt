use Rattle.sg_bucket.proofs.Changing.{put_can, put_did}
use Rattle.sg_bucket.proofs.change.put_at.Goals as goal

pub change-requires-clause-can : goal.change-requires-clause-can
change-requires-clause-can g c = λ told. let h = c.requires.there told in put_can h.1 h.2

pub returns-clause-did : goal.returns-clause-did
returns-clause-did g c = put_did c.requires.cell c.in_ok-change.ensures.did
