use Rattle.std.proofs.Common.{◌≡◌}
use Rattle.sg_bucket.specs.Part.{HasNoKey}
use Rattle.sg_bucket.proofs.Walking.{Walks}
use Rattle.sg_ops.specs.Table.{Table}
use Rattle.sg_bucket.proofs.walk.seek.Given as goal

abbrev pub invariant-loop-passed : goal.invariant-loop-passed
invariant-loop-passed g l = record {
  so_far : Walks (g.P.PageSpace.view l.fn.space) (g.P.PageSpace.view l.space) l.fn.first.0 l._passed l.page.0 l.before.0 (λ slots. HasNoKey slots l.key);
  later : (t : Table) → g.P.PageSpace.later t l.fn.space l.space;
  means : (t : Table) → g.P.PageSpace.means l.fn.space t → g.P.PageSpace.means l.space t;
  quiet : (g.P.PageSpace.view l.space).faults ≡ (g.P.PageSpace.view l.fn.space).faults;
  records : (g.P.PageSpace.view l.space).records ≡ (g.P.PageSpace.view l.fn.space).records;
}
