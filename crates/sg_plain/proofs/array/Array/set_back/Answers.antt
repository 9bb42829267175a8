use Rattle.std.proofs.Common.{arith}
use Rattle.sg_plain.proofs.Arrays.{set_past}
use Rattle.sg_plain.proofs.array.Array.set_back.Goals as goal

pub returns-then-index-len : goal.returns-then-index-len
returns-then-index-len c = set_past c.args.self.now c.args.index c.args.item.now (omega arith)
