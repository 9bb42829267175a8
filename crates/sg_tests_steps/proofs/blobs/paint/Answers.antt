use Rattle.sg_tests_steps.proofs.blobs.paint.Goals as goal

pub returns-clause-own : goal.returns-clause-own
returns-clause-own g c =
    let h = c.requires.there tt in
    let did = c.in_ok-paint.ensures.did.turns tt h.0 h.1 h.2 in
    record { blob = did.0; stands = did.1.blob; own = did.3 }
