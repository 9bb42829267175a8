use Rattle.std.proofs.Common.{◌-◌, ◌+◌, length, List}
use Rattle.sg_ops.specs.Table.{table_of}
use Rattle.sg_record.specs.Records.{Record}
use Rattle.sg_places.specs.Text.{IsText}
use Rattle.sg_places.proofs.Rest.{AreFramesChecked}
use Rattle.sg_places.proofs.checking.check.Given as goal

abbrev pub invariant-frames : goal.invariant-frames
invariant-frames g l = (frames : List (List Record)) → IsText frames l.text
    → AreFramesChecked (table_of (λ p. (goal.RecordOp-dyn g p).record_meaning p.1) (λ p. (goal.RangeOp-dyn g p).range_meaning p.1) l.ops) l.pages l.bands l.start (l.base + l.start) l.point (l.losers, l.opened) l.text frames l.at l.unknown

abbrev pub decreases-frames : goal.decreases-frames
decreases-frames g l = length l.text - l.at
