use Rattle.std.proofs.Common.{refl}
use Rattle.sg_bucket.proofs.Extending.{can_put, can_append, extended_put, extended_more}
use Rattle.sg_bucket.proofs.branching.extend.Goals as goal

pub put_at-requires-clause-there : goal.put_at-requires-clause-there
put_at-requires-clause-there g c = λ told. let h = c.requires.there told in (h.0, h.1, can_put c.in-Some.is h.2)

pub append-requires-clause-there : goal.append-requires-clause-there
append-requires-clause-there g c = λ told. let h = c.requires.there told in (h.0, h.1, can_append c.in-None.is h.2)

pub returns-in_ok-put_at-in-Some-clause-did : goal.returns-in_ok-put_at-in-Some-clause-did
returns-in_ok-put_at-in-Some-clause-did g c = extended_put c.in-Some.is refl refl c.in_ok-put_at-in-Some.ensures.did

pub returns-in_ok-page-in-None-clause-did : goal.returns-in_ok-page-in-None-clause-did
returns-in_ok-page-in-None-clause-did g c = extended_more c.in-None.is refl refl c.in_ok-page-in-None.ensures.did
