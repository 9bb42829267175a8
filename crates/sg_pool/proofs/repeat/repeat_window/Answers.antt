use Rattle.std.proofs.Common.{ℕ, Bool, Option, List, ◌∙◌, ap}
use Rattle.sg_ops.specs.Table.{Table, table_of}
use Rattle.sg_redo.specs.Places.{window_records, marks_with}
use Rattle.sg_redo.specs.Window.{since_replayed}
use Rattle.sg_pool.proofs.Repeating.{window_from, window_oldest, window_marked, window_lie, window_given, window_here}
use Rattle.sg_pool.proofs.repeat.repeat_window.Goals as goal

pub give-requires : goal.give-requires
give-requires g c =
    let t : Table = table_of (λ p. (goal.RecordOp-dyn g p).record_meaning p.1) (λ p. (goal.RangeOp-dyn g p).range_meaning p.1) c.args.ops.now in
    window_from t c.args.text.now c.args.places.now c.unit_of-unit.result c.unit_of-unit.ensures.own c.args.frames.now c.take_window-loan.new.self c.replay_unit.new.unit c.replay_unit.ensures.unit c.take_window-loan.result c.unit_of-unit.ensures.loan
    c.args.w c.requires.there c.take_window-loan.ensures.left c.take_window-loan.ensures.spot c.take_window-loan.ensures.place

pub returns-clause-frames : goal.returns-clause-frames
returns-clause-frames g c =
    let t : Table = table_of (λ p. (goal.RecordOp-dyn g p).record_meaning p.1) (λ p. (goal.RangeOp-dyn g p).range_meaning p.1) c.args.ops.now in
    window_given t c.args.text.now c.args.places.now c.unit_of-unit.result c.unit_of-unit.ensures.own c.args.frames.now c.take_window-loan.new.self c.replay_unit.new.unit c.replay_unit.ensures.unit c.take_window-loan.result c.unit_of-unit.ensures.loan
    c.args.w c.requires.there c.take_window-loan.ensures.left c.take_window-loan.ensures.spot c.take_window-loan.ensures.place c.take_window-loan.ensures.bytes c.requires.here c.give.new.self c.give.ensures.held

pub returns-clause-here : goal.returns-clause-here
returns-clause-here g c =
    let t : Table = table_of (λ p. (goal.RecordOp-dyn g p).record_meaning p.1) (λ p. (goal.RangeOp-dyn g p).range_meaning p.1) c.args.ops.now in
    window_here t c.args.text.now c.args.places.now c.unit_of-unit.result c.unit_of-unit.ensures.own c.args.frames.now c.take_window-loan.new.self c.replay_unit.new.unit c.replay_unit.ensures.unit c.take_window-loan.result c.unit_of-unit.ensures.loan
    c.args.w c.requires.there c.take_window-loan.ensures.left c.take_window-loan.ensures.spot c.take_window-loan.ensures.place c.take_window-loan.ensures.bytes c.requires.here c.give.new.self c.give.ensures.here

pub returns-clause-since : goal.returns-clause-since
returns-clause-since g c =
    let t : Table = table_of (λ p. (goal.RecordOp-dyn g p).record_meaning p.1) (λ p. (goal.RangeOp-dyn g p).range_meaning p.1) c.args.ops.now in
    window_oldest t c.args.text.now c.args.places.now c.unit_of-unit.result c.unit_of-unit.ensures.own c.args.frames.now c.take_window-loan.new.self c.replay_unit.new.unit c.replay_unit.ensures.unit c.take_window-loan.result c.unit_of-unit.ensures.loan
    c.args.w c.requires.there c.take_window-loan.ensures.left c.take_window-loan.ensures.spot c.take_window-loan.ensures.place c.take_window-loan.ensures.bytes c.requires.here
    ∙ ap (λ (o : Option ℕ). since_replayed (window_records t c.args.text.now c.args.places.now) o) c.unit_of-unit.ensures.since

pub returns-clause-marked : goal.returns-clause-marked
returns-clause-marked g c =
    let t : Table = table_of (λ p. (goal.RecordOp-dyn g p).record_meaning p.1) (λ p. (goal.RangeOp-dyn g p).range_meaning p.1) c.args.ops.now in
    window_marked t c.args.text.now c.args.places.now c.unit_of-unit.result c.unit_of-unit.ensures.own c.args.frames.now c.take_window-loan.new.self c.replay_unit.new.unit c.replay_unit.ensures.unit c.take_window-loan.result c.unit_of-unit.ensures.loan
    c.args.w c.requires.there c.take_window-loan.ensures.left c.take_window-loan.ensures.spot c.take_window-loan.ensures.place c.take_window-loan.ensures.bytes c.requires.here
    ∙ ap (λ (l : List Bool). marks_with (window_records t c.args.text.now c.args.places.now) l) (c.unit_of-unit.ensures.dirty ∙ c.replace-dirty.ensures.value)

pub returns-clause-lie : goal.returns-clause-lie
returns-clause-lie g c =
    let t : Table = table_of (λ p. (goal.RecordOp-dyn g p).record_meaning p.1) (λ p. (goal.RangeOp-dyn g p).range_meaning p.1) c.args.ops.now in
    window_lie t c.args.text.now c.args.places.now c.unit_of-unit.result c.unit_of-unit.ensures.own c.args.frames.now c.take_window-loan.new.self c.replay_unit.new.unit c.replay_unit.ensures.unit c.take_window-loan.result c.unit_of-unit.ensures.loan
    c.args.w c.requires.there c.take_window-loan.ensures.left c.take_window-loan.ensures.spot c.take_window-loan.ensures.place c.take_window-loan.ensures.bytes c.requires.here c.replay_unit.ensures.lie
