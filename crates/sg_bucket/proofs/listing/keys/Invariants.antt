use Rattle.std.specs.Prelude.{◌≡◌, ℕ, ⊤}
use Rattle.sg_bucket.proofs.Listed.{AreListed}
use Rattle.sg_bucket.proofs.Walking.{Walks}
use Rattle.sg_ops.specs.Table.{Table}
use Rattle.sg_bucket.proofs.listing.keys.Given as goal

abbrev pub invariant-loop-passed : goal.invariant-loop-passed
invariant-loop-passed g l = record {
  so_far :
      ((before : ℕ) × Walks (g.P.PageSpace.view l.fn.space) (g.P.PageSpace.view l.space) l.fn.first.0 l._passed l.page.0 before (λ slots. ⊤))
      × AreListed (g.P.PageSpace.view l.fn.space) l.fn.first.0 l._passed l.fn.into.items l.into.items;
  later : (t : Table) → g.P.PageSpace.later t l.fn.space l.space;
  means : (t : Table) → g.P.PageSpace.means l.fn.space t → g.P.PageSpace.means l.space t;
  quiet : (g.P.PageSpace.view l.space).faults ≡ (g.P.PageSpace.view l.fn.space).faults;
  records : (g.P.PageSpace.view l.space).records ≡ (g.P.PageSpace.view l.fn.space).records;
}
