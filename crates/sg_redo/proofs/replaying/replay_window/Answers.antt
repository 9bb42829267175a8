use Rattle.std.proofs.Common.{◌≡◌, List, take, sym, ◌∙◌, subst, arith}
use Rattle.std.proofs.lemmas.Grind.{common_steps}
use Rattle.sg_ops.specs.Table.{Table, table_of}
use Rattle.sg_redo.specs.declared.place.Place.{Place}
use Rattle.sg_redo.specs.Places.{window_records}
use Rattle.sg_redo.proofs.InTurn.{Marks, window_turn, marks_turn, window_since_turn, lie_turn}
use Rattle.sg_redo.proofs.Marking.{marks_are}
use Rattle.sg_redo.proofs.replaying.replay_window.Goals as goal

pub places-preserved : goal.places-preserved
places-preserved g c =
    let t : Table = table_of (λ p. (goal.RecordOp-dyn g p).record_meaning p.1) (λ p. (goal.RangeOp-dyn g p).range_meaning p.1) c.args.ops.now in
    record {
      written = grind (arith, common_steps, window_turn);
      marked = marks_turn t c.args.text.now c.args.places.now c.places.k _ c.args.dirty.now c.places.dirty c.redo_window.new.dirty c.places-test.true c.places.invariant.marked c.redo_window.ensures.marked;
      marks = λ whole. c.redo_window.ensures.marks (c.places.invariant.marks whole);
      since = c.redo_window.ensures.since ∙ window_since_turn t c.args.text.now c.args.places.now c.places.k _ c.args.since.now c.places.since c.places-test.true c.places.invariant.since;
      lie = lie_turn t c.args.text.now c.args.places.now c.places.k _ c.places-test.true c.places.invariant.lie c.redo_window.ensures.lies;
    }

pub returns-clause-marked : goal.returns-clause-marked
returns-clause-marked g c =
    let t : Table = table_of (λ p. (goal.RecordOp-dyn g p).record_meaning p.1) (λ p. (goal.RangeOp-dyn g p).range_meaning p.1) c.args.ops.now in
    let all : take c.places.k c.args.places.now ≡ c.args.places.now = grind (arith, common_steps) in
    marks_are (window_records t c.args.text.now c.args.places.now) c.args.dirty.now c.places.dirty (c.places.invariant.marks c.covers_window.ensures ∙ sym c.covers_window.ensures)
    (subst (λ (places : List Place). Marks (window_records t c.args.text.now places) c.args.dirty.now c.places.dirty) all c.places.invariant.marked)
