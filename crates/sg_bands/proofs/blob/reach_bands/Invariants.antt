use Rattle.std.proofs.Common.{◌≡◌}
use Rattle.sg_ops.specs.Table.{Table}
use Rattle.sg_bands.specs.Parts.{band_no, HasBand}
use Rattle.sg_bands.specs.Reached.{numbers_in}
use Rattle.sg_reach.proofs.Walking.{WalkTo}
use Rattle.sg_bands.proofs.blob.reach_bands.Given as goal

abbrev pub invariant-loop-j : goal.invariant-loop-j
invariant-loop-j g l = record {
  so_far : WalkTo (g.P.PageSpace.view l.fn.space) (g.P.PageSpace.view l.space) (band_no (g.P.PageSpace.view l.fn.space).space.pages.at l.root.0) (HasBand (g.P.PageSpace.view l.fn.space).space.pages.at (g.P.PageSpace.view l.fn.space).space.bands.at l.root.0 (numbers_in l.found)) l.fn.into.bands l.into.bands l.j
      × (l.into.pages ≡ l.fn.into.pages);
  later : (t : Table) → g.P.PageSpace.later t l.fn.space l.space;
  means : (t : Table) → g.P.PageSpace.means l.fn.space t → g.P.PageSpace.means l.space t;
  quiet : (g.P.PageSpace.view l.space).faults ≡ (g.P.PageSpace.view l.fn.space).faults;
  records : (g.P.PageSpace.view l.space).records ≡ (g.P.PageSpace.view l.fn.space).records;
}
