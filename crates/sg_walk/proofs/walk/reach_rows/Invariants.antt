use Rattle.std.proofs.Common.{◌≡◌}
use Rattle.sg_ops.specs.Table.{Table}
use Rattle.sg_reach.specs.Marks.{AreKept}
use Rattle.sg_walk.proofs.Joining.{RowsTo}
use Rattle.sg_walk.proofs.walk.reach_rows.Given as goal

abbrev pub invariant-loop-slot : goal.invariant-loop-slot
invariant-loop-slot g l = record {
  so_far : RowsTo (g.P.PageSpace.view l.fn.space) (g.P.PageSpace.view l.space) l.pages l.p.0 l.fn.into l.into l.slot;
  later : (t : Table) → g.P.PageSpace.later t l.fn.space l.space;
  means : (t : Table) → g.P.PageSpace.means l.fn.space t → g.P.PageSpace.means l.space t;
  quiet : (g.P.PageSpace.view l.space).faults ≡ (g.P.PageSpace.view l.fn.space).faults;
  stays : (g.P.PageSpace.view l.fn.space).Shows → AreKept l.fn.into.pages l.into.pages;
  records : (g.P.PageSpace.view l.space).records ≡ (g.P.PageSpace.view l.fn.space).records;
}
