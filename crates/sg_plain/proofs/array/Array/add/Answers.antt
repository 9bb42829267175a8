use Rattle.std.proofs.Common.{arith}
use Rattle.sg_plain.proofs.Chunks.{row_pushed, counted}
use Rattle.sg_plain.proofs.array.Array.add.Goals as goal

pub returns-clause-ok : goal.returns-clause-ok
returns-clause-ok c = row_pushed c.self.inside.size c.self.inside.count c.self.inside.bytes.items c.extend_from_slice.new.self.items c.args.value.now c.args.self.now c.self.view_is c.in_ok-extend_from_slice.ensures.items c.self.invariant.whole c.requires.sized

pub overflow_add-self : goal.overflow_add-self
overflow_add-self c = omega (arith, counted c.self.inside.size c.self.inside.count c.self.inside.bytes.items c.args.self.now c.self.view_is, c.requires.room)
