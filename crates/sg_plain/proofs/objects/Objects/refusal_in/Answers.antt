use Rattle.std.proofs.Common.{sym}
use Rattle.std.specs.FinMap.{get}
use Rattle.sg_ops.specs.Table.{table_of}
use Rattle.sg_model.specs.SaidOps.{verb_of}
use Rattle.sg_plain.specs.Shown.{shown}
use Rattle.sg_plain.proofs.Steps.{refuses_none, refuses_there}
use Rattle.sg_plain.proofs.objects.Objects.refusal_in.Goals as goal

pub returns-in-None : goal.returns-in-None
returns-in-None g c =
    let t = table_of (λ p. (goal.RecordOp-dyn g p).record_meaning p.1) (λ p. (goal.RangeOp-dyn g p).range_meaning p.1) c.args.ops.now in
    refuses_none t (verb_of c.args.op.now) (get c.args.self.now c.args.name) c.requires (sym c.in-None.ensures)

pub returns-in-Some : goal.returns-in-Some
returns-in-Some g c =
    let t = table_of (λ p. (goal.RecordOp-dyn g p).record_meaning p.1) (λ p. (goal.RangeOp-dyn g p).range_meaning p.1) c.args.ops.now in
    refuses_there t (verb_of c.args.op.now) (get c.args.self.now c.args.name) (shown c.in-Some.object.now) c.refusal.result (sym c.in-Some.ensures) c.refusal.ensures
