use Rattle.std.proofs.Common.{◌≤◌, ◌+◌, ◌≡◌, length}
use Rattle.sg_array.specs.Array.{IsArray}
use Rattle.sg_ops.specs.Table.{Table}
use Rattle.sg_array.proofs.Freed.{FreesTo}
use Rattle.sg_array.proofs.free.free_leaves.Given as goal

abbrev pub invariant-loop-d : goal.invariant-loop-d
invariant-loop-d g l = record {
  frees : FreesTo (g.P.PageSpace.view l.fn.space) (g.P.PageSpace.view l.space) (λ a. IsArray (g.P.PageSpace.view l.fn.space).space.pages.at l.root.0 a × (length a.leaves ≡ l.count)) (λ a. a.leaves) (λ _. l.d);
  later : (t : Table) → g.P.PageSpace.later t l.fn.space l.space;
  means : (t : Table) → g.P.PageSpace.means l.fn.space t → g.P.PageSpace.means l.space t;
  quiet : (g.P.PageSpace.view l.space).faults ≡ (g.P.PageSpace.view l.fn.space).faults;
  few : (g.P.PageSpace.view l.space).records ≤ (g.P.PageSpace.view l.fn.space).records + l.d;
}
