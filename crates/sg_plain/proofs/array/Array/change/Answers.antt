use Rattle.std.proofs.Common.{arith}
use Rattle.sg_ops.specs.Table.{table_of}
use Rattle.sg_plain.proofs.Arrays.{code_small, item_there}
use Rattle.sg_plain.proofs.array.Array.change.Goals as goal

pub overflow_cast-code : goal.overflow_cast-code
overflow_cast-code g c =
    let t = table_of (λ p. (goal.RecordOp-dyn g p).record_meaning p.1) (λ p. (goal.RangeOp-dyn g p).range_meaning p.1) c.args.ops.now in
    omega (arith, code_small t c.args.index c.args.code c.args.arg.now c.args.self.now c.requires)

pub redo-requires-clause-there : goal.redo-requires-clause-there
redo-requires-clause-there g c =
    let t = table_of (λ p. (goal.RecordOp-dyn g p).record_meaning p.1) (λ p. (goal.RangeOp-dyn g p).range_meaning p.1) c.args.ops.now in
    item_there t c.args.index c.args.code c.args.arg.now c.args.self.now c.requires
