use Rattle.std.proofs.Common.{◌-◌, ◌*◌, ◌≤◌, ◌+◌, ◌≡◌}
use Rattle.sg_blob.proofs.Growth.{GrowsTo}
use Rattle.sg_ops.specs.Table.{table_of}
use Rattle.sg_blob.proofs.change.grow_to.Given as goal

abbrev pub invariant-loop-j : goal.invariant-loop-j
invariant-loop-j g l = record {
  so_far : GrowsTo (g.P.PageSpace.view l.fn.space) (g.P.PageSpace.view l.space) l.root.0 l.have l.j l.want;
  later : g.P.PageSpace.later (table_of (λ p. (goal.RecordOp-dyn g p).record_meaning p.1) (λ p. (goal.RangeOp-dyn g p).range_meaning p.1) l.ops) l.fn.space l.space;
  means : g.P.PageSpace.means l.space (table_of (λ p. (goal.RecordOp-dyn g p).record_meaning p.1) (λ p. (goal.RangeOp-dyn g p).range_meaning p.1) l.ops);
  quiet : (g.P.PageSpace.view l.space).faults ≡ (g.P.PageSpace.view l.fn.space).faults;
  few : (g.P.PageSpace.view l.space).records ≤ (g.P.PageSpace.view l.fn.space).records + 6 * (l.j - l.have);
}
