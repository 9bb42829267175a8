use Rattle.std.proofs.Common.{◌*◌, ◌≤◌, ◌+◌, ◌≡◌}
use Rattle.sg_bucket.proofs.Stripping.{Prunes}
use Rattle.sg_ops.specs.Table.{table_of}
use Rattle.sg_bucket.proofs.pruning.prune.Given as goal

abbrev pub invariant-loop-passed : goal.invariant-loop-passed
invariant-loop-passed g l = record {
  so_far : Prunes (g.P.PageSpace.view l.fn.space) (g.P.PageSpace.view l.space) l.fn.first.0 l.before.0 l.page.0 l.there l._passed;
  later : g.P.PageSpace.later (table_of (λ p. (goal.RecordOp-dyn g p).record_meaning p.1) (λ p. (goal.RangeOp-dyn g p).range_meaning p.1) l.ops) l.fn.space l.space;
  means : g.P.PageSpace.means l.space (table_of (λ p. (goal.RecordOp-dyn g p).record_meaning p.1) (λ p. (goal.RangeOp-dyn g p).range_meaning p.1) l.ops);
  quiet : (g.P.PageSpace.view l.space).faults ≡ (g.P.PageSpace.view l.fn.space).faults;
  few : (g.P.PageSpace.view l.space).records ≤ (g.P.PageSpace.view l.fn.space).records + 1020 * l._passed;
}
