use Rattle.std.proofs.Common.{◌≡◌, ◌-◌, ◌≤◌, IsTrue, [], length, List, vec_capacity}
use Rattle.sg_ops.specs.Table.{table_of}
use Rattle.sg_record.specs.Records.{Record}
use Rattle.sg_log.specs.Frames.{Numbered}
use Rattle.sg_pool.specs.Counts.{HasGrown}
use Rattle.sg_pool.specs.Pooled.{sizes}
use Rattle.sg_engine.specs.Engine.{Origin}
use Rattle.sg_open.specs.Repeatable.{MayRepeat, IsRepeating}
use Rattle.sg_open.proofs.Going.{IsDone}
use Rattle.sg_open.proofs.repeating.replay.Given as goal

abbrev pub invariant-stretches : goal.invariant-stretches
invariant-stretches g l = (l.at ≤ l.end) × (length l.space ≡ length l.fn.space) × (vec_capacity l.places ≡ vec_capacity l.fn.places) × ((g.D.Disk.view l.disk).faults ≡ (g.D.Disk.view l.fn.disk).faults) × (l.fn.steps ≤ l.steps) × (sizes l.pool ≡ sizes l.fn.pool)
    × ((o : Origin) (ds : List Numbered) (frames : List (List Record)) → IsTrue g.D.Disk.told → o.super ≡ l.s →
    MayRepeat (table_of (λ p. (goal.RecordOp-dyn g p).record_meaning p.1) (λ p. (goal.RangeOp-dyn g p).range_meaning p.1) l.ops) o l.point l.fn.log.gate ds →
    IsRepeating o l.point ds [] frames (g.D.Disk.view l.fn.disk) l.fn.log l.fn.pool → IsDone o l.point ds frames (g.D.Disk.view l.fn.disk) (g.D.Disk.view l.disk) l.fn.log l.log l.pool l.at (l.steps - l.fn.steps))
    × ((g.D.Disk.view l.fn.disk).handed ≤ (g.D.Disk.view l.disk).handed) × HasGrown l.fn.log l.log (g.D.Disk.view l.fn.disk) (g.D.Disk.view l.disk) × (length l.fn.log.buffer ≡ 0 → length l.log.buffer ≡ 0)

abbrev pub decreases-stretches : goal.decreases-stretches
decreases-stretches g l = l.end - l.at
