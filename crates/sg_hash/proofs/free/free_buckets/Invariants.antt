use Rattle.std.proofs.Common.{◌≡◌, ◌≤◌, ◌+◌, take}
use Rattle.sg_hash.specs.Table.{HashTable, IsHashTable, chain_pages}
use Rattle.sg_hash.proofs.Freeing.{FreesTo}
use Rattle.sg_ops.specs.Table.{Table}
use Rattle.sg_hash.proofs.free.free_buckets.Given as goal

abbrev pub invariant-loop-i : goal.invariant-loop-i
invariant-loop-i g l = record {
  so_far : FreesTo (g.P.PageSpace.view l.fn.space) (g.P.PageSpace.view l.space) l.root.0 l.i;
  later : (t : Table) → g.P.PageSpace.later t l.fn.space l.space;
  means : (t : Table) → g.P.PageSpace.means l.fn.space t → g.P.PageSpace.means l.space t;
  quiet : (g.P.PageSpace.view l.space).faults ≡ (g.P.PageSpace.view l.fn.space).faults;
  few : (g.P.PageSpace.view l.fn.space).Told → (t : HashTable) → IsHashTable (g.P.PageSpace.view l.fn.space).space.pages.at l.root.0 t → (g.P.PageSpace.view l.space).records ≤ (g.P.PageSpace.view l.fn.space).records + chain_pages (take l.i t.buckets);
}
