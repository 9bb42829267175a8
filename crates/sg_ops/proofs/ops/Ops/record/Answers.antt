use Rattle.std.proofs.Common.{◌==◌}
use Rattle.sg_ops.proofs.Finds.{match_mapped}
use Rattle.sg_ops.specs.Table.{record_of, record_at}
use Rattle.sg_ops.proofs.ops.Ops.record.Goals as goal

pub returns : goal.returns
unfolding record_at
returns g c = match_mapped (λ m. m.code == c.args.code) (record_of (λ b. (goal.RecordOp-dyn g (b.vtable, b.value)).record_meaning b.value)) c.args.self.now.records.items _ (rw c.deref.ensures.value at c.find_record.ensures)
