use Rattle.std.proofs.Common.{◌≡◌, ℕ, ◌<◌, Some, slice_get}
use Rattle.sg_bucket.specs.Bucket.{Bucket}
use Rattle.sg_ops.specs.Table.{Table}
use Rattle.sg_chains.specs.Tally.{IsChain, IsOnceAt}
use Rattle.sg_chains.proofs.Keys.{SeesTo}
use Rattle.sg_chains.proofs.once.check_page.Given as goal

abbrev pub invariant-loop-slot : goal.invariant-loop-slot
invariant-loop-slot g l = record {
  so_far : SeesTo (g.P.PageSpace.view l.fn.space) (g.P.PageSpace.view l.space) ((b : Bucket) → IsChain (g.P.PageSpace.view l.fn.space).space.pages.at l.first.0 l.pages b → (i : ℕ) → slice_get b.pages i ≡ Some l.p.0 → (slot : ℕ) → slot < l.slot → IsOnceAt b i slot);
  later : (t : Table) → g.P.PageSpace.later t l.fn.space l.space;
  means : (t : Table) → g.P.PageSpace.means l.fn.space t → g.P.PageSpace.means l.space t;
  quiet : (g.P.PageSpace.view l.space).faults ≡ (g.P.PageSpace.view l.fn.space).faults;
  records : (g.P.PageSpace.view l.space).records ≡ (g.P.PageSpace.view l.fn.space).records;
}
