use Rattle.std.proofs.Common.{arith}
use Rattle.sg_blob.specs.Blob.{raw_of}
use Rattle.sg_blob.proofs.blob.bands.Goals as goal

pub returns-clause-read : goal.returns-clause-read
returns-clause-read g c = λ shows b h.
    let is = (c.in_ok-found.ensures.read shows (raw_of b) h.raw).1 in
    let for = c.bands_for.ensures in
    let least = h.least in
    let most = h.most in
    omega arith
