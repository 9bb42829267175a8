use Rattle.std.proofs.Common.{take}
use Rattle.sg_plain.proofs.Arrays.{popped}
use Rattle.sg_plain.proofs.array.Array.pop.Goals as goal

pub returns : goal.returns
returns c = popped c.args.self.now c.take_last.new.self (take c.take_last.result c.take_last.new.into) c.take_last.ensures
