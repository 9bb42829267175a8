use Rattle.std.proofs.Common.{sym, ◌∙◌, arith}
use Rattle.sg_ops.proofs.Ripple.{subtracted-ended, subtracted-before_add}
use Rattle.sg_ops.proofs.shipped.subtract_bytes.Goals as goal

pub returns : goal.returns
returns c =
    sym (subtracted-ended c.loop-k.borrow c.loop-k.k c.loop-k.item c.args.arg.now (omega arith))
    ∙ c.loop-k.invariant.difference
    ∙ subtracted-before_add c.args.item.now c.args.arg.now c.are_bytes.ensures c.are_bytes-2.ensures
