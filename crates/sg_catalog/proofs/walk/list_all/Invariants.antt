use Rattle.std.proofs.Common.{◌≡◌, ℕ, ◌*◌, take}
use Rattle.sg_catalog.specs.Catalog.{Catalog, filled}
use Rattle.sg_catalog.specs.Look.{names_of}
use Rattle.sg_catalog.proofs.Walks.{WalksTo}
use Rattle.sg_ops.specs.Table.{Table}
use Rattle.sg_catalog.proofs.walk.list_all.Given as goal

abbrev pub invariant-pages : goal.invariant-pages
invariant-pages g l = record {
  walk : WalksTo (g.P.PageSpace.view l.fn.space) (g.P.PageSpace.view l.space) (λ (c : Catalog) (j : ℕ). l.all.items ≡ names_of (filled (take (79 * j) c.places))) l.counter l.next.0 l.pages;
  later : (t : Table) → g.P.PageSpace.later t l.fn.space l.space;
  means : (t : Table) → g.P.PageSpace.means l.fn.space t → g.P.PageSpace.means l.space t;
  quiet : (g.P.PageSpace.view l.space).faults ≡ (g.P.PageSpace.view l.fn.space).faults;
  records : (g.P.PageSpace.view l.space).records ≡ (g.P.PageSpace.view l.fn.space).records;
}
