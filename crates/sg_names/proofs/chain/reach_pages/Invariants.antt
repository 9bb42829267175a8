use Rattle.std.proofs.Common.{◌≡◌, true, Some, slice_get}
use Rattle.sg_ops.specs.Table.{Table}
use Rattle.sg_names.specs.Pages.{later_no, HasLater}
use Rattle.sg_reach.proofs.Walking.{WalkTo}
use Rattle.sg_names.proofs.chain.reach_pages.Given as goal

abbrev pub invariant-pages : goal.invariant-pages
invariant-pages g l = record {
  so_far : WalkTo (g.P.PageSpace.view l.fn.space) (g.P.PageSpace.view l.space) (later_no (g.P.PageSpace.view l.fn.space).space.pages.at) (HasLater (g.P.PageSpace.view l.fn.space).space.pages.at) l.fn.into.pages l.into.pages l.counter
      × (l.into.bands ≡ l.fn.into.bands)
      × ((g.P.PageSpace.view l.fn.space).Shows → later_no (g.P.PageSpace.view l.fn.space).space.pages.at l.counter ≡ l.next.0);
  later : (t : Table) → g.P.PageSpace.later t l.fn.space l.space;
  means : (t : Table) → g.P.PageSpace.means l.fn.space t → g.P.PageSpace.means l.space t;
  quiet : (g.P.PageSpace.view l.space).faults ≡ (g.P.PageSpace.view l.fn.space).faults;
  last : slice_get l.into.pages l.last.0 ≡ Some true;
  records : (g.P.PageSpace.view l.space).records ≡ (g.P.PageSpace.view l.fn.space).records;
}
