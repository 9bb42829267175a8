use Rattle.std.proofs.Common.{sym, ◌∙◌, arith}
use Rattle.sg_ops.proofs.Ripple.{added-ended, added-after_add}
use Rattle.sg_ops.proofs.shipped.add_bytes.Goals as goal

pub returns : goal.returns
returns c =
    sym (added-ended c.loop-k.carry c.loop-k.k c.loop-k.item c.args.arg.now (omega arith))
    ∙ c.loop-k.invariant.sum
    ∙ added-after_add c.args.item.now c.args.arg.now c.requires
