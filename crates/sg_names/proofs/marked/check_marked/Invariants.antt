use Rattle.std.proofs.Common.{◌≡◌, ℕ, ◌+◌, ◌*◌, Some, length, slice_get}
use Rattle.sg_catalog.specs.Catalog.{Catalog}
use Rattle.sg_ops.specs.Table.{Table}
use Rattle.sg_names.specs.Marked.{IsMarked}
use Rattle.sg_names.specs.Tally.{IsChain}
use Rattle.sg_names.proofs.Onces.{SeesTo}
use Rattle.sg_names.proofs.marked.check_marked.Given as goal

abbrev pub invariant-loop-slot : goal.invariant-loop-slot
invariant-loop-slot g l = record {
  so_far : SeesTo (g.P.PageSpace.view l.fn.space) (g.P.PageSpace.view l.space) ((c : Catalog) → IsChain (g.P.PageSpace.view l.fn.space).space.pages.at l.pages c → (j : ℕ) → slice_get c.pages j ≡ Some l.p.0 → IsMarked c (79 * j) l.fn.marks → IsMarked c (79 * j + l.slot) l.marks);
  long : length l.marks ≡ length l.fn.marks;
  later : (t : Table) → g.P.PageSpace.later t l.fn.space l.space;
  means : (t : Table) → g.P.PageSpace.means l.fn.space t → g.P.PageSpace.means l.space t;
  quiet : (g.P.PageSpace.view l.space).faults ≡ (g.P.PageSpace.view l.fn.space).faults;
  records : (g.P.PageSpace.view l.space).records ≡ (g.P.PageSpace.view l.fn.space).records;
}
