use Rattle.sg_ops.specs.Table.{table_of}
use Rattle.sg_action.proofs.TakenOff.{goes_on}
use Rattle.sg_action.proofs.laws.goes_on.Goals as goal

pub returns : goal.returns
returns g c =
    let t = table_of (λ p. (goal.RecordOp-dyn g p).record_meaning p.1) (λ p. (goal.RangeOp-dyn g p).range_meaning p.1) c.args.ops.now in
    goes_on t
