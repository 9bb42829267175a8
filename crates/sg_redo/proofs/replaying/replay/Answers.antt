use Rattle.std.proofs.Common.{arith}
use Rattle.sg_ops.specs.Table.{Table, table_of}
use Rattle.sg_redo.specs.Units.{replayed_unit}
use Rattle.sg_redo.proofs.Replayed.{all_done, lent_kept}
use Rattle.sg_redo.proofs.replaying.replay.Goals as goal

pub returns-clause-units : goal.returns-clause-units
returns-clause-units g c =
    let t : Table = table_of (λ p. (goal.RecordOp-dyn g p).record_meaning p.1) (λ p. (goal.RangeOp-dyn g p).range_meaning p.1) c.args.ops.now in
    all_done (replayed_unit t c.args.text.now c.args.places.now) c.args.units.now c.units.units (omega arith) (λ k d h. c.units.invariant.made k d (omega (arith, h)))

pub returns-clause-lent : goal.returns-clause-lent
returns-clause-lent g c =
    let t : Table = table_of (λ p. (goal.RecordOp-dyn g p).record_meaning p.1) (λ p. (goal.RangeOp-dyn g p).range_meaning p.1) c.args.ops.now in
    lent_kept t c.args.text.now c.args.places.now c.args.units.now c.units.units
    (all_done (replayed_unit t c.args.text.now c.args.places.now) c.args.units.now c.units.units (omega arith) (λ k d h. c.units.invariant.made k d (omega (arith, h))))
