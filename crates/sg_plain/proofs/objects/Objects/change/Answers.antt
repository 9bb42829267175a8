use Rattle.std.proofs.Common.{ℕ, List, Option, sym, ap, ◌∙◌}
use Rattle.sg_ops.specs.Table.{table_of}
use Rattle.sg_model.specs.Objects.{Object}
use Rattle.sg_model.specs.SaidOps.{said_op, verb_of, name_of}
use Rattle.sg_model.specs.Undo.{OpNote, note_of_op}
use Rattle.sg_plain.specs.Undone.{shown_undo, undo_in}
use Rattle.sg_plain.proofs.Noting.{refused_notes}
use Rattle.sg_plain.proofs.Steps.{refused}
use Rattle.sg_plain.proofs.Taken.{one_noted, accepted_on, accepted_note}
use Rattle.sg_plain.proofs.objects.Objects.change.Goals as goal

pub returns-in-Some-clause-done : goal.returns-in-Some-clause-done
returns-in-Some-clause-done g c = refused _ c.args.self.now (said_op c.args.op.now) c.in-Some.reason c.in-Some.ensures

pub returns-in-Some-clause-noted : goal.returns-in-Some-clause-noted
returns-in-Some-clause-noted g c = λ name object.
    ap (λ (o : Option Object). undo_in c.args.changes.now name o) (sym (refused_notes _ c.args.self.now (said_op c.args.op.now) c.in-Some.reason c.in-Some.ensures name object))

pub undo_of-requires : goal.undo_of-requires
undo_of-requires g c =
    let t = table_of (λ p. (goal.RecordOp-dyn g p).record_meaning p.1) (λ p. (goal.RangeOp-dyn g p).range_meaning p.1) c.args.ops.now in
    (t, accepted_on t c.args.self.now (name_of c.args.op.now) (verb_of c.args.op.now) c.in_default.ensures)

pub returns-in-Ok-Ok-clause-noted : goal.returns-in-Ok-Ok-clause-noted
returns-in-Ok-Ok-clause-noted g c =
    let t = table_of (λ p. (goal.RecordOp-dyn g p).record_meaning p.1) (λ p. (goal.RangeOp-dyn g p).range_meaning p.1) c.args.ops.now in
    let n : List ℕ = name_of c.args.op.now in
    let named : List ℕ → OpNote = λ k. (k, shown_undo c.in-Ok.undo) in
    let is = ap named c.name-name.ensures ∙ accepted_note t c.args.self.now n (verb_of c.args.op.now) (shown_undo c.in-Ok.undo) c.in_default.ensures c.in-Ok.ensures in
    one_noted c.push_reserved.new.self.items c.reserve.new.self.items c.args.changes.now.notes.items (record { name = c.name-name.result; undo = c.in-Ok.undo }) (note_of_op t c.args.self.now (said_op c.args.op.now)) c.push_reserved.ensures.items c.reserve.ensures.items is
