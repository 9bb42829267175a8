use Rattle.std.specs.Prelude.{◌≡◌, ℕ, ⊤}
use Rattle.sg_bucket.proofs.Walking.{Walks}
use Rattle.sg_ops.specs.Table.{table_of}
use Rattle.sg_bucket.proofs.change.add.Given as goal

abbrev pub invariant-loop-passed : goal.invariant-loop-passed
invariant-loop-passed g l = record {
  so_far : (before : ℕ) × Walks (g.P.PageSpace.view l.fn.space) (g.P.PageSpace.view l.space) l.fn.first.0 l._passed l.page.0 before (λ slots. ⊤);
  later : g.P.PageSpace.later (table_of (λ p. (goal.RecordOp-dyn g p).record_meaning p.1) (λ p. (goal.RangeOp-dyn g p).range_meaning p.1) l.ops) l.fn.space l.space;
  means : g.P.PageSpace.means l.space (table_of (λ p. (goal.RecordOp-dyn g p).record_meaning p.1) (λ p. (goal.RangeOp-dyn g p).range_meaning p.1) l.ops);
  quiet : (g.P.PageSpace.view l.space).faults ≡ (g.P.PageSpace.view l.fn.space).faults;
  records : (g.P.PageSpace.view l.space).records ≡ (g.P.PageSpace.view l.fn.space).records;
}
