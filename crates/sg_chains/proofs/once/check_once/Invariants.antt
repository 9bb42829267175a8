use Rattle.std.proofs.Common.{◌≡◌, ℕ}
use Rattle.sg_ops.specs.Table.{Table}
use Rattle.sg_chains.proofs.Keys.{ChainTo, OnceSo}
use Rattle.sg_chains.proofs.once.check_once.Given as goal

abbrev pub invariant-pages : goal.invariant-pages
invariant-pages g l = record {
  so_far : ChainTo (g.P.PageSpace.view l.fn.space) (g.P.PageSpace.view l.space) l.first.0 l.pages OnceSo l.counter l.page.0;
  later : (t : Table) → g.P.PageSpace.later t l.fn.space l.space;
  means : (t : Table) → g.P.PageSpace.means l.fn.space t → g.P.PageSpace.means l.space t;
  quiet : (g.P.PageSpace.view l.space).faults ≡ (g.P.PageSpace.view l.fn.space).faults;
  records : (g.P.PageSpace.view l.space).records ≡ (g.P.PageSpace.view l.fn.space).records;
}
