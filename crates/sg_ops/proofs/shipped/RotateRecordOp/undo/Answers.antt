use Rattle.std.proofs.Common.{◌∙◌, ◌-◌, ap, arith, sym, length}
use Rattle.sg_ops.specs.Shipped.{turned}
use Rattle.sg_ops.proofs.Parts.{turned-parts}
use Rattle.sg_ops.proofs.shipped.RotateRecordOp.undo.Goals as goal

pub returns-then-not-is_empty : goal.returns-then-not-is_empty
returns-then-not-is_empty c =
    c.rotate_right.ensures.after
    ∙ sym (turned-parts (length c.args.item.now - c.turn-by.result) c.args.item.now (omega arith))
    ∙ ap (λ m. turned (length c.args.item.now - m) c.args.item.now) c.turn-by.ensures.turn
