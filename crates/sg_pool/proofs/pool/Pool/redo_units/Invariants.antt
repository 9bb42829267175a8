use Rattle.std.proofs.Common.{◌-◌, length}
use Rattle.sg_ops.specs.Table.{table_of}
use Rattle.sg_pool.proofs.Grouped.{IsThrough}
use Rattle.sg_pool.proofs.pool.Pool.redo_units.Given as goal

abbrev pub invariant-units : goal.invariant-units
invariant-units g l = IsThrough g.D.Disk.told (table_of (λ p. (goal.RecordOp-dyn g p).record_meaning p.1) (λ p. (goal.RangeOp-dyn g p).range_meaning p.1) l.fn.ops) l.fn.text l.places (g.D.Disk.view l.fn.disk) (g.D.Disk.view l.disk) l.fn.log l.log l.fn.self l.self l.from l.fn.steps l.steps

abbrev pub decreases-units : goal.decreases-units
decreases-units g l = length l.places - l.from
