use Rattle.std.proofs.Common.{◌≡◌, ℕ, ◌<◌, ◌≤◌, ◌^◌, true, Some, slice_get}
use Rattle.sg_alloc.specs.Flags.{free_of}
use Rattle.sg_ops.specs.Table.{Table}
use Rattle.sg_chains.specs.Parts.{chain_no, HasLink}
use Rattle.sg_chains.specs.Reached.{AreFew}
use Rattle.sg_chains.proofs.Sums.{Passed}
use Rattle.sg_reach.proofs.Walking.{WalkTo}
use Rattle.sg_chains.proofs.chain.reach_chain.Given as goal

abbrev pub invariant-links : goal.invariant-links
invariant-links g l = record {
  so_far : WalkTo (g.P.PageSpace.view l.fn.space) (g.P.PageSpace.view l.space) (chain_no (g.P.PageSpace.view l.fn.space).space.pages.at l.fn.first.0) (HasLink (g.P.PageSpace.view l.fn.space).space.pages.at l.there l.fn.first.0) l.fn.into.pages l.into.pages l.pages;
  passed : (g.P.PageSpace.view l.fn.space).Shows → Passed (g.P.PageSpace.view l.fn.space).space.pages.at l.fn.first.0 l.pages l.entries l.bytes l.next.0;
  bands : l.into.bands ≡ l.fn.into.bands;
  some : 1 ≤ l.pages;
  few : AreFew l.fn.into.pages l.into.pages l.pages l.entries l.bytes;
  most : free_of l.fn.into.pages < 2 ^ 32;
  later : (t : Table) → g.P.PageSpace.later t l.fn.space l.space;
  means : (t : Table) → g.P.PageSpace.means l.fn.space t → g.P.PageSpace.means l.space t;
  quiet : (g.P.PageSpace.view l.space).faults ≡ (g.P.PageSpace.view l.fn.space).faults;
  last : slice_get l.into.pages l.last.0 ≡ Some true;
  records : (g.P.PageSpace.view l.space).records ≡ (g.P.PageSpace.view l.fn.space).records;
}

abbrev pub decreases-links : goal.decreases-links
decreases-links g l = free_of l.into.pages
