use Rattle.std.proofs.Common.{◌≡◌, ◌*◌, ◌≤◌}
use Rattle.sg_ops.specs.Table.{Table}
use Rattle.sg_names.proofs.Tallies.{ChainTo, CountsSo}
use Rattle.sg_names.proofs.tally.count.Given as goal

abbrev pub invariant-pages : goal.invariant-pages
invariant-pages g l = record {
  so_far : ChainTo (g.P.PageSpace.view l.fn.space) (g.P.PageSpace.view l.space) l.pages (CountsSo l.what l.n) l.counter l.page.0 × (l.n ≤ 65536 * l.counter);
  later : (t : Table) → g.P.PageSpace.later t l.fn.space l.space;
  quiet : (g.P.PageSpace.view l.space).faults ≡ (g.P.PageSpace.view l.fn.space).faults;
  means : (t : Table) → g.P.PageSpace.means l.fn.space t → g.P.PageSpace.means l.space t;
  records : (g.P.PageSpace.view l.space).records ≡ (g.P.PageSpace.view l.fn.space).records;
}
