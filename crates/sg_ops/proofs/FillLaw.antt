-- What `fill` gives are bytes.
use Rattle.std.proofs.Common.{◌%◌, [], ◌∷◌, length, arith}
use Rattle.sg_ops.specs.Meaning.{GivesBytes}
use Rattle.sg_ops.specs.Shipped.{fill_meaning}

pub fill_gives_bytes : GivesBytes fill_meaning
fill_gives_bytes [] position bytes within = omega arith
fill_gives_bytes (x ∷ xs) position bytes within = bytes (position % length (x ∷ xs)) 0 (omega arith)
