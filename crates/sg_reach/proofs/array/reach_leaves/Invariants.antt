use Rattle.std.proofs.Common.{◌≡◌}
use Rattle.sg_ops.specs.Table.{Table}
use Rattle.sg_reach.specs.Parts.{leaf_no, HasLeaf}
use Rattle.sg_reach.specs.Reached.{numbers_in}
use Rattle.sg_reach.proofs.Walking.{WalkTo}
use Rattle.sg_reach.proofs.array.reach_leaves.Given as goal

abbrev pub invariant-loop-d : goal.invariant-loop-d
invariant-loop-d g l = record {
  so_far : WalkTo (g.P.PageSpace.view l.fn.space) (g.P.PageSpace.view l.space) (leaf_no (g.P.PageSpace.view l.fn.space).space.pages.at l.root.0) (HasLeaf (g.P.PageSpace.view l.fn.space).space.pages.at l.root.0 (numbers_in l.found)) l.fn.into.pages l.into.pages l.d
      × (l.into.bands ≡ l.fn.into.bands);
  later : (t : Table) → g.P.PageSpace.later t l.fn.space l.space;
  means : (t : Table) → g.P.PageSpace.means l.fn.space t → g.P.PageSpace.means l.space t;
  quiet : (g.P.PageSpace.view l.space).faults ≡ (g.P.PageSpace.view l.fn.space).faults;
  records : (g.P.PageSpace.view l.space).records ≡ (g.P.PageSpace.view l.fn.space).records;
}
