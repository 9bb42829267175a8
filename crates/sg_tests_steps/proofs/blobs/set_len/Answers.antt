use Rattle.sg_tests_steps.proofs.Knowing.{has_bands}
use Rattle.sg_tests_steps.proofs.blobs.set_len.Goals as goal

pub set_len-requires-clause-there : goal.set_len-requires-clause-there
set_len-requires-clause-there g c = λ told. let h = c.requires.there tt in (h.0, h.1, has_bands c.args.space.now h.2)

pub returns-clause-own : goal.returns-clause-own
returns-clause-own g c =
    let h = c.requires.there tt in
    let did = c.in_ok-set_len.ensures.did.turns tt h.0 h.1 (has_bands c.args.space.now h.2) in
    record { blob = did.0; stands = did.1.blob; own = did.3 }
