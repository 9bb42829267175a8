use Rattle.std.proofs.Common.{rules}
use Rattle.sg_plain.proofs.array.Array.read.Goals as goal

pub returns-in-Some : goal.returns-in-Some
returns-in-Some c = search rules
