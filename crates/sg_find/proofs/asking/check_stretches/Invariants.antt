use Rattle.std.proofs.Common.{◌≡◌, ◌-◌, ◌≤◌, IsTrue, length, List}
use Rattle.sg_ops.specs.Table.{table_of}
use Rattle.sg_record.specs.Records.{Record}
use Rattle.sg_log.specs.Frames.{Frames, gate_after}
use Rattle.sg_log.specs.Reads.{OnlyReads}
use Rattle.sg_find.specs.Stretch.{GREATEST_FRAME}
use Rattle.sg_find.proofs.Reading.{IsAsked}
use Rattle.sg_find.proofs.asking.check_stretches.Given as goal

abbrev pub invariant-stretches : goal.invariant-stretches
invariant-stretches g l = (l.at ≤ l.end) × OnlyReads g.D.Disk.told (g.D.Disk.view l.fn.disk) (g.D.Disk.view l.disk) × ((g.D.Disk.view l.disk).faults ≡ (g.D.Disk.view l.fn.disk).faults) × (length l.space ≡ length l.fn.space)
    × ((frames : List (List Record)) → IsTrue g.D.Disk.told → Frames ((g.D.Disk.view l.fn.disk).now l.area).seen 0 frames → l.end ≡ gate_after 0 frames → GREATEST_FRAME ≤ length l.fn.space →
    IsAsked (table_of (λ p. (goal.RecordOp-dyn g p).record_meaning p.1) (λ p. (goal.RangeOp-dyn g p).range_meaning p.1) l.ops) l.s.pages l.s.bands l.s.base l.point (l.analysis.losers, l.analysis.opened) frames l.at l.unknown)

abbrev pub decreases-stretches : goal.decreases-stretches
decreases-stretches g l = l.end - l.at
