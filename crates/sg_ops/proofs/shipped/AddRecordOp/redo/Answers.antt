use Rattle.std.proofs.Common.{◌∙◌, ◌+◌, ap, length}
use Rattle.sg_ops.specs.Shipped.{value_of}
use Rattle.sg_ops.specs.AddLaw.{value_of-bytes_of}
use Rattle.sg_ops.proofs.shipped.AddRecordOp.redo.Goals as goal

pub returns-clause-sum : goal.returns-clause-sum
returns-clause-sum c = ap value_of c.add_bytes.ensures ∙ value_of-bytes_of (length c.args.item.now) (value_of c.args.item.now + value_of c.args.arg.now)
