use Rattle.std.proofs.Common.{◌+◌, ◌≡◌, ◌≤◌}
use Rattle.sg_blob.proofs.Freeing.{FreesTo}
use Rattle.sg_ops.specs.Table.{Table}
use Rattle.sg_blob.proofs.free.free_all.Given as goal

abbrev pub invariant-loop-j : goal.invariant-loop-j
invariant-loop-j g l = record {
  so_far : FreesTo (g.P.PageSpace.view l.fn.space) (g.P.PageSpace.view l.space) l.root.0 l.j;
  later : (t : Table) → g.P.PageSpace.later t l.fn.space l.space;
  means : (t : Table) → g.P.PageSpace.means l.fn.space t → g.P.PageSpace.means l.space t;
  quiet : (g.P.PageSpace.view l.space).faults ≡ (g.P.PageSpace.view l.fn.space).faults;
  few : (g.P.PageSpace.view l.space).records ≤ (g.P.PageSpace.view l.fn.space).records + l.j;
}
