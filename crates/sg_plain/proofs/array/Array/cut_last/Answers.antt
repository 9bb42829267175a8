use Rattle.sg_plain.proofs.Arrays.{cut_row}
use Rattle.sg_plain.proofs.array.Array.cut_last.Goals as goal

pub returns-then-self-gt0 : goal.returns-then-self-gt0
returns-then-self-gt0 c =
    cut_row c.self.inside.size c.self.inside.count c.self.inside.bytes.items c.truncate.new.self.items c.args.self.now c.self.view_is c.if-self-gt0.true c.self.invariant.whole c.truncate.ensures.items
