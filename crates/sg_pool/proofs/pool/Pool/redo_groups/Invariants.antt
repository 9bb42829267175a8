use Rattle.std.proofs.Common.{◌≡◌, ◌-◌, [], length}
use Rattle.sg_ops.specs.Table.{table_of}
use Rattle.sg_pool.proofs.Grouped.{IsThrough}
use Rattle.sg_pool.proofs.pool.Pool.redo_groups.Given as goal

-- the pages before this place are done, and no unit is left
abbrev pub invariant-groups : goal.invariant-groups
invariant-groups g l = record {
  through : IsThrough g.D.Disk.told (table_of (λ p. (goal.RecordOp-dyn g p).record_meaning p.1) (λ p. (goal.RangeOp-dyn g p).range_meaning p.1) l.fn.ops) l.fn.text l.places (g.D.Disk.view l.fn.disk) (g.D.Disk.view l.disk) l.fn.log l.log l.fn.self l.self l.from l.fn.steps l.steps;
  empty : l.units.items ≡ [];
}

abbrev pub decreases-groups : goal.decreases-groups
decreases-groups g l = length l.places - l.from
