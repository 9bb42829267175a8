use Rattle.sg_ops.specs.Table.{table_of}
use Rattle.sg_action.proofs.TakenOff.{bytes_come_back}
use Rattle.sg_action.proofs.laws.bytes_come_back.Goals as goal

pub returns : goal.returns
returns g c =
    let t = table_of (λ p. (goal.RecordOp-dyn g p).record_meaning p.1) (λ p. (goal.RangeOp-dyn g p).range_meaning p.1) c.args.ops.now in
    bytes_come_back t
