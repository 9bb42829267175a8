use Rattle.std.proofs.Common.{◌-◌}
use Rattle.sg_pool.proofs.Flushing.{IsFlushing}
use Rattle.sg_pool.proofs.shelf.Shelf.flush_pages.Given as goal

abbrev pub invariant-batches : goal.invariant-batches
invariant-batches g l = IsFlushing g.D.Disk.told l.fn.self l.self (g.D.Disk.view l.fn.disk) (g.D.Disk.view l.disk) l.from

abbrev pub decreases-batches : goal.decreases-batches
decreases-batches g l = l.end - l.from
