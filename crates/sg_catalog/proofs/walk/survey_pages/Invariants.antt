use Rattle.std.proofs.Common.{◌≡◌, ℕ, ◌*◌, ◌≤◌}
use Rattle.sg_catalog.specs.Catalog.{Catalog}
use Rattle.sg_catalog.specs.Steps.{SurveyedTo}
use Rattle.sg_catalog.proofs.Walks.{WalksTo}
use Rattle.sg_ops.specs.Table.{Table}
use Rattle.sg_catalog.proofs.walk.survey_pages.Given as goal

abbrev pub invariant-pages : goal.invariant-pages
invariant-pages g l = record {
  walk : WalksTo (g.P.PageSpace.view l.fn.space) (g.P.PageSpace.view l.space) (λ (c : Catalog) (j : ℕ). SurveyedTo (g.P.PageSpace.view l.fn.space).space.pages.at c j l.all) l.counter l.next.0 l.pages;
  most : l.all.rows ≤ 79 * l.counter;
  later : (t : Table) → g.P.PageSpace.later t l.fn.space l.space;
  means : (t : Table) → g.P.PageSpace.means l.fn.space t → g.P.PageSpace.means l.space t;
  quiet : (g.P.PageSpace.view l.space).faults ≡ (g.P.PageSpace.view l.fn.space).faults;
  records : (g.P.PageSpace.view l.space).records ≡ (g.P.PageSpace.view l.fn.space).records;
}
