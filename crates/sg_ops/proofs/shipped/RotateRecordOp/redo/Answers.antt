use Rattle.std.proofs.Common.{◌∙◌, ap, arith, slice_index}
use Rattle.sg_ops.specs.RotateLaw.{slice_index-turned}
use Rattle.sg_ops.proofs.Parts.{rotated-turned}
use Rattle.sg_ops.proofs.shipped.RotateRecordOp.redo.Goals as goal

pub returns-then-not-is_empty-clause-bytes : goal.returns-then-not-is_empty-clause-bytes
returns-then-not-is_empty-clause-bytes c =
    c.rotate_left.ensures.after ∙ rotated-turned (slice_index c.args.arg.now 0) c.turn-by.result c.args.item.now c.turn-by.ensures.turn (omega arith)

pub returns-then-not-is_empty-clause-byte_by_byte :
    goal.returns-then-not-is_empty-clause-byte_by_byte
returns-then-not-is_empty-clause-byte_by_byte c = λ j h.
    ap (λ s. slice_index s j) (c.rotate_left.ensures.after ∙ rotated-turned (slice_index c.args.arg.now 0) c.turn-by.result c.args.item.now c.turn-by.ensures.turn (omega arith))
    ∙ slice_index-turned (slice_index c.args.arg.now 0) c.args.item.now j h
