use Rattle.std.proofs.Common.{◌≡◌}
use Rattle.sg_catalog.specs.Look.{fits}
use Rattle.sg_catalog.proofs.Walks.{WalksTo, FindsNone}
use Rattle.sg_ops.specs.Table.{Table}
use Rattle.sg_catalog.proofs.walk.search.Given as goal

abbrev pub invariant-pages : goal.invariant-pages
invariant-pages g l = record {
  walk : WalksTo (g.P.PageSpace.view l.fn.space) (g.P.PageSpace.view l.space) (FindsNone (fits l.wanted)) l.counter l.next.0 l.pages;
  later : (t : Table) → g.P.PageSpace.later t l.fn.space l.space;
  means : (t : Table) → g.P.PageSpace.means l.fn.space t → g.P.PageSpace.means l.space t;
  quiet : (g.P.PageSpace.view l.space).faults ≡ (g.P.PageSpace.view l.fn.space).faults;
  records : (g.P.PageSpace.view l.space).records ≡ (g.P.PageSpace.view l.fn.space).records;
}
