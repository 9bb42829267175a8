use Rattle.std.proofs.Common.{◌≡◌, ◌-◌, [], length}
use Rattle.sg_ops.specs.Table.{Table}
use Rattle.sg_pool.specs.Pooled.{sizes}
use Rattle.sg_pool.proofs.Grouped.{IsThrough}
use Rattle.sg_pool.proofs.pool.Pool.hold_pages.Given as goal

-- the pages before this place are held
abbrev pub invariant-units : goal.invariant-units
invariant-units g l = record {
  through : (t : Table) → IsThrough g.D.Disk.told t [] l.places (g.D.Disk.view l.fn.disk) (g.D.Disk.view l.disk) l.fn.log l.log l.fn.self l.self l.from 0 l.from;
  size : sizes l.self ≡ sizes l.fn.self;
}

abbrev pub decreases-units : goal.decreases-units
decreases-units g l = length l.places - l.from
