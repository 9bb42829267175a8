use Rattle.sg_blob.proofs.Parts.{still_blob}
use Rattle.sg_tests_steps.specs.Steps.{later_then}
use Rattle.sg_tests_steps.proofs.blobs.look.Goals as goal

pub bands-requires : goal.bands-requires
bands-requires c = λ told. let h = c.requires tt in (h.0, h.1, tt)

pub read-requires : goal.read-requires
read-requires c = λ told. let h = c.requires tt in (h.0, still_blob c.in_ok-bands.ensures.kept tt h.1, h.2)

pub len-requires : goal.len-requires
len-requires c = λ told. let h = c.requires tt in (h.0, still_blob c.in_ok-read.ensures.kept tt (still_blob c.in_ok-bands.ensures.kept tt h.1), tt)

pub returns-in_err-read-clause-later : goal.returns-in_err-read-clause-later
returns-in_err-read-clause-later c = λ t. later_then t _ _ _ (c.bands.ensures.later t) (c.read.ensures.later t)

pub returns-in_err-found-clause-later : goal.returns-in_err-found-clause-later
returns-in_err-found-clause-later c = λ t. later_then t _ _ _ (c.bands.ensures.later t) (later_then t _ _ _ (c.read.ensures.later t) (c.len.ensures.later t))

pub returns-clause-later : goal.returns-clause-later
returns-clause-later c = λ t. later_then t _ _ _ (c.bands.ensures.later t) (later_then t _ _ _ (c.read.ensures.later t) (c.len.ensures.later t))
