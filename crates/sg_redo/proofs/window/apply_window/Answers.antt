use Rattle.std.proofs.Common.{◌↔◌, ◌⊎◌, ℕ, Option, sym, subst}
use Rattle.sg_ops.specs.Meaning.{RangeMeaning}
use Rattle.sg_ops.specs.Table.{table_of, range_at}
use Rattle.sg_segment.specs.Runs.{IsMarked, IsWithin}
use Rattle.sg_ops.proofs.Rendering.{length-rendered}
use Rattle.sg_redo.proofs.window.apply_window.Goals as goal

pub returns-in-Paint-clause-marked : goal.returns-in-Paint-clause-marked
returns-in-Paint-clause-marked g c =
    let op : Option RangeMeaning = range_at (table_of (λ p. (goal.RecordOp-dyn g p).record_meaning p.1) (λ p. (goal.RangeOp-dyn g p).range_meaning p.1) c.args.ops.now) c.in-Paint.code in
    rw c.in-Paint.is (subst (λ (n : ℕ). (k : ℕ) → IsMarked c.paint.new.dirty k ↔ (IsMarked c.args.dirty.now k ⊎ IsWithin c.in-Paint.at n k)) (sym (length-rendered op c.in-Paint.arg.now c.in-Paint.position c.in-Paint.count)) c.paint.ensures.marked)
