use Rattle.std.proofs.Common.{ℕ, Option, [], get_or, ◌∙◌, ap}
use Rattle.sg_redo.specs.History.{since_repeated}
use Rattle.sg_redo.specs.Places.{page_records}
use Rattle.sg_ops.specs.Table.{Table, table_of}
use Rattle.sg_pool.proofs.Repeating.{frame_from, frame_since, frame_given, frame_here, frame_well}
use Rattle.sg_pool.proofs.repeat.repeat_frame.Goals as goal

pub give-requires : goal.give-requires
give-requires g c =
    let t : Table = table_of (λ p. (goal.RecordOp-dyn g p).record_meaning p.1) (λ p. (goal.RangeOp-dyn g p).range_meaning p.1) c.args.ops.now in
    frame_from t c.args.text.now c.args.places.now c.unit_of-unit.result c.unit_of-unit.ensures.own c.args.frames.now c.take-loan.new.self c.replay_unit.new.unit c.replay_unit.ensures.unit c.take-loan.result c.unit_of-unit.ensures.loan
    c.args.f c.requires.there c.take-loan.ensures.left c.take-loan.ensures.spot c.take-loan.ensures.place

pub returns-clause-frames : goal.returns-clause-frames
returns-clause-frames g c =
    let t : Table = table_of (λ p. (goal.RecordOp-dyn g p).record_meaning p.1) (λ p. (goal.RangeOp-dyn g p).range_meaning p.1) c.args.ops.now in
    frame_given t c.args.text.now c.args.places.now c.unit_of-unit.result c.unit_of-unit.ensures.own c.args.frames.now c.take-loan.new.self c.replay_unit.new.unit c.replay_unit.ensures.unit c.take-loan.result c.unit_of-unit.ensures.loan
    c.args.f c.requires.there c.take-loan.ensures.left c.take-loan.ensures.spot c.take-loan.ensures.place c.take-loan.ensures.bytes c.requires.here c.give.new.self c.give.ensures.held

pub returns-clause-here : goal.returns-clause-here
returns-clause-here g c =
    let t : Table = table_of (λ p. (goal.RecordOp-dyn g p).record_meaning p.1) (λ p. (goal.RangeOp-dyn g p).range_meaning p.1) c.args.ops.now in
    frame_here t c.args.text.now c.args.places.now c.unit_of-unit.result c.unit_of-unit.ensures.own c.args.frames.now c.take-loan.new.self c.replay_unit.new.unit c.replay_unit.ensures.unit c.take-loan.result c.unit_of-unit.ensures.loan
    c.args.f c.requires.there c.take-loan.ensures.left c.take-loan.ensures.spot c.take-loan.ensures.place c.take-loan.ensures.bytes c.requires.here c.give.new.self c.give.ensures.here

pub returns-clause-since : goal.returns-clause-since
returns-clause-since g c =
    let t : Table = table_of (λ p. (goal.RecordOp-dyn g p).record_meaning p.1) (λ p. (goal.RangeOp-dyn g p).range_meaning p.1) c.args.ops.now in
    frame_since t c.args.text.now c.args.places.now c.unit_of-unit.result c.unit_of-unit.ensures.own c.args.frames.now c.take-loan.new.self c.replay_unit.new.unit c.replay_unit.ensures.unit c.take-loan.result c.unit_of-unit.ensures.loan
    c.args.f c.requires.there c.take-loan.ensures.left c.take-loan.ensures.spot c.take-loan.ensures.place c.take-loan.ensures.bytes c.requires.here
    ∙ ap (λ (o : Option ℕ). since_repeated (page_records t c.args.text.now c.args.places.now) (get_or c.args.frames.now.pages c.args.f []) o) c.unit_of-unit.ensures.since

pub returns-clause-well : goal.returns-clause-well
returns-clause-well g c =
    let t : Table = table_of (λ p. (goal.RecordOp-dyn g p).record_meaning p.1) (λ p. (goal.RangeOp-dyn g p).range_meaning p.1) c.args.ops.now in
    frame_well t c.args.text.now c.args.places.now c.unit_of-unit.result c.unit_of-unit.ensures.own c.args.frames.now c.take-loan.new.self c.replay_unit.new.unit c.replay_unit.ensures.unit c.take-loan.result c.unit_of-unit.ensures.loan
    c.args.f c.requires.there c.take-loan.ensures.left c.take-loan.ensures.spot c.take-loan.ensures.place c.take-loan.ensures.bytes c.requires.here c.replay_unit.ensures.well
