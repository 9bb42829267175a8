use Rattle.sg_ops.specs.Table.{table_of}
use Rattle.sg_action.proofs.TakenOff.{takes_off}
use Rattle.sg_action.proofs.laws.takes_off.Goals as goal

pub returns : goal.returns
returns g c =
    let t = table_of (λ p. (goal.RecordOp-dyn g p).record_meaning p.1) (λ p. (goal.RangeOp-dyn g p).range_meaning p.1) c.args.ops.now in
    takes_off t c.laws.ensures
