use Rattle.std.proofs.Common.{◌≡◌, ◌-◌}
use Rattle.sg_blob.proofs.Pieces.{HasPieces}
use Rattle.sg_blob.proofs.Writing.{WritesTo}
use Rattle.sg_blob.specs.Steps.{HasPlace, with_bytes}
use Rattle.sg_ops.specs.Table.{table_of, range_at, rendered}
use Rattle.sg_blob.proofs.change.paint_all.Given as goal

abbrev pub invariant-pieces : goal.invariant-pieces
invariant-pieces g l = record {
  so_far : WritesTo (g.P.PageSpace.view l.fn.space) (g.P.PageSpace.view l.space) l.root.0 (HasPlace l.at l.count) (with_bytes l.at (rendered (range_at (table_of (λ p. (goal.RecordOp-dyn g p).record_meaning p.1) (λ p. (goal.RangeOp-dyn g p).range_meaning p.1) l.ops) l.code) l.arg l.at l.done)) l.done l.count;
  later : g.P.PageSpace.later (table_of (λ p. (goal.RecordOp-dyn g p).record_meaning p.1) (λ p. (goal.RangeOp-dyn g p).range_meaning p.1) l.ops) l.fn.space l.space;
  means : g.P.PageSpace.means l.space (table_of (λ p. (goal.RecordOp-dyn g p).record_meaning p.1) (λ p. (goal.RangeOp-dyn g p).range_meaning p.1) l.ops);
  quiet : (g.P.PageSpace.view l.space).faults ≡ (g.P.PageSpace.view l.fn.space).faults;
  few : HasPieces (g.P.PageSpace.view l.fn.space).records (g.P.PageSpace.view l.space).records l.at l.done l.count;
}

abbrev pub decreases-pieces : goal.decreases-pieces
decreases-pieces g l = l.count - l.done
