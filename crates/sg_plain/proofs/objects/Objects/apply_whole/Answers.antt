use Rattle.sg_ops.specs.Table.{table_of}
use Rattle.sg_plain.proofs.objects.Objects.apply_whole.Goals as goal

pub perform-requires-clause-accepted : goal.perform-requires-clause-accepted
perform-requires-clause-accepted g c =
    let t = table_of (λ p. (goal.RecordOp-dyn g p).record_meaning p.1) (λ p. (goal.RangeOp-dyn g p).range_meaning p.1) c.args.ops.now in
    (t, c.in_default.ensures)
