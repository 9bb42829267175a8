use Rattle.sg_tests_steps.proofs.Knowing.{can_write}
use Rattle.sg_tests_steps.proofs.blobs.write.Goals as goal

pub write-requires-clause-there : goal.write-requires-clause-there
write-requires-clause-there g c = λ told. let h = c.requires.there tt in (h.0, h.1, can_write c.args.space.now h.2)

pub returns-clause-own : goal.returns-clause-own
returns-clause-own g c =
    let h = c.requires.there tt in
    let did = c.in_ok-write.ensures.did.turns tt h.0 h.1 (can_write c.args.space.now h.2) in
    record { blob = did.0; stands = did.1.blob; own = did.3 }
