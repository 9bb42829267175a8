use Rattle.std.proofs.Common.{rules}
use Rattle.sg_plain.proofs.array.Array.set.Goals as goal

pub returns : goal.returns
returns c = search rules
