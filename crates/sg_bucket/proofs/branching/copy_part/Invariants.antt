use Rattle.std.proofs.Common.{◌*◌, ◌≤◌, ◌+◌, ◌≡◌}
use Rattle.sg_bucket.proofs.Copying.{Copies}
use Rattle.sg_ops.specs.Table.{table_of}
use Rattle.sg_bucket.proofs.branching.copy_part.Given as goal

abbrev pub invariant-loop-slot : goal.invariant-loop-slot
invariant-loop-slot g l = record {
  so_far : Copies (g.P.PageSpace.view l.fn.space) (g.P.PageSpace.view l.space) l.fn.new.0 l.there l.from.0 l.slot l.fn.tail l.tail;
  later : g.P.PageSpace.later (table_of (λ p. (goal.RecordOp-dyn g p).record_meaning p.1) (λ p. (goal.RangeOp-dyn g p).range_meaning p.1) l.ops) l.fn.space l.space;
  means : g.P.PageSpace.means l.space (table_of (λ p. (goal.RecordOp-dyn g p).record_meaning p.1) (λ p. (goal.RangeOp-dyn g p).range_meaning p.1) l.ops);
  quiet : (g.P.PageSpace.view l.space).faults ≡ (g.P.PageSpace.view l.fn.space).faults;
  few : (g.P.PageSpace.view l.space).records ≤ (g.P.PageSpace.view l.fn.space).records + 4 * l.slot;
}
