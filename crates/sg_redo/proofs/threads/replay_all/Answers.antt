use Rattle.std.proofs.Common.{rules, ◌+◌, ◌∙◌, ap}
use Rattle.sg_ops.specs.Table.{Table, table_of}
use Rattle.sg_redo.specs.Units.{replayed_unit}
use Rattle.sg_redo.proofs.Replayed.{all_done, lent_kept, counts_kept}
use Rattle.sg_redo.proofs.threads.replay_all.Goals as goal

pub returns-clause-units : goal.returns-clause-units
returns-clause-units g c =
    let t : Table = table_of (λ p. (goal.RecordOp-dyn g p).record_meaning p.1) (λ p. (goal.RangeOp-dyn g p).range_meaning p.1) c.args.ops.now in
    all_done (replayed_unit t c.args.text.now c.args.places.now) c.args.units.now c.for_each_mut.new.s (search rules) (search rules)

pub returns-clause-lent : goal.returns-clause-lent
returns-clause-lent g c =
    let t : Table = table_of (λ p. (goal.RecordOp-dyn g p).record_meaning p.1) (λ p. (goal.RangeOp-dyn g p).range_meaning p.1) c.args.ops.now in
    lent_kept t c.args.text.now c.args.places.now c.args.units.now c.for_each_mut.new.s (returns-clause-units g c)

pub returns-clause-steps : goal.returns-clause-steps
returns-clause-steps g c =
    let t : Table = table_of (λ p. (goal.RecordOp-dyn g p).record_meaning p.1) (λ p. (goal.RangeOp-dyn g p).range_meaning p.1) c.args.ops.now in
    c.tick_places.ensures ∙ ap (λ n. c.args.steps.now + n) (counts_kept t c.args.text.now c.args.places.now c.args.units.now c.for_each_mut.new.s (returns-clause-units g c))
