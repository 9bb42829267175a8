use Rattle.std.proofs.Common.{rules}
use Rattle.sg_plain.proofs.array.Array.undo_of.Goals as goal

pub returns-in-Push : goal.returns-in-Push
returns-in-Push c = search rules
