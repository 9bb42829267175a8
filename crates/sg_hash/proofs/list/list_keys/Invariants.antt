use Rattle.std.proofs.Common.{◌≡◌}
use Rattle.sg_hash.proofs.Listing.{ListsTo}
use Rattle.sg_ops.specs.Table.{Table}
use Rattle.sg_hash.proofs.list.list_keys.Given as goal

abbrev pub invariant-loop-i : goal.invariant-loop-i
invariant-loop-i g l = record {
  so_far : ListsTo (g.P.PageSpace.view l.fn.space) (g.P.PageSpace.view l.space) l.root.0 l.i l.all.items;
  later : (t : Table) → g.P.PageSpace.later t l.fn.space l.space;
  means : (t : Table) → g.P.PageSpace.means l.fn.space t → g.P.PageSpace.means l.space t;
  quiet : (g.P.PageSpace.view l.space).faults ≡ (g.P.PageSpace.view l.fn.space).faults;
  records : (g.P.PageSpace.view l.space).records ≡ (g.P.PageSpace.view l.fn.space).records;
}
