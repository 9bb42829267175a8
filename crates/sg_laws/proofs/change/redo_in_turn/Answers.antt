use Rattle.std.proofs.Common.{arith}
use Rattle.sg_ops.specs.Table.{table_of}
use Rattle.sg_laws.proofs.Each.{all_made}
use Rattle.sg_laws.proofs.change.redo_in_turn.Goals as goal

pub returns : goal.returns
returns g c = all_made (table_of (λ p. (goal.RecordOp-dyn g p).record_meaning p.1) (λ p. (goal.RangeOp-dyn g p).range_meaning p.1) c.args.ops.now) c.args.changes.now c.loop-i.changes (omega arith) (λ k d h. c.loop-i.invariant.made k d (omega (arith, h)))
