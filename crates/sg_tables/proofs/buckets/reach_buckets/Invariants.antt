use Rattle.std.proofs.Common.{◌≡◌, ℕ, ◌+◌, ◌*◌, ◌<◌, ◌≤◌, ◌^◌}
use Rattle.sg_alloc.specs.Flags.{free_of}
use Rattle.sg_ops.specs.Table.{Table}
use Rattle.sg_reach.specs.Marks.{AreKept}
use Rattle.sg_tables.proofs.Gathering.{BucketsTo}
use Rattle.sg_tables.proofs.buckets.reach_buckets.Given as goal

abbrev pub invariant-loop-i : goal.invariant-loop-i
invariant-loop-i g l = record {
  so_far : BucketsTo (g.P.PageSpace.view l.fn.space) (g.P.PageSpace.view l.space) l.directory.0 l.extent l.fn.into.pages l.into.pages l.entries l.bytes l.i;
  bands : l.into.bands ≡ l.fn.into.bands;
  entries_few : l.entries + 65536 * free_of l.into.pages ≤ 65536 * free_of l.fn.into.pages;
  bytes_few : l.bytes + 134217728 * free_of l.into.pages ≤ 134217728 * free_of l.fn.into.pages;
  most : free_of l.fn.into.pages < 2 ^ 32;
  later : (t : Table) → g.P.PageSpace.later t l.fn.space l.space;
  means : (t : Table) → g.P.PageSpace.means l.fn.space t → g.P.PageSpace.means l.space t;
  quiet : (g.P.PageSpace.view l.space).faults ≡ (g.P.PageSpace.view l.fn.space).faults;
  stays : (g.P.PageSpace.view l.fn.space).Shows → AreKept l.fn.into.pages l.into.pages;
  records : (g.P.PageSpace.view l.space).records ≡ (g.P.PageSpace.view l.fn.space).records;
}
