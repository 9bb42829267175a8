use Rattle.std.proofs.Common.{◌≡◌, Some, None, rules}
use Rattle.std.specs.FinMap.{get}
use Rattle.sg_ops.specs.Table.{table_of}
use Rattle.sg_model.specs.Objects.{Objects}
use Rattle.sg_model.specs.SaidOps.{verb_of}
use Rattle.sg_plain.specs.Shown.{shown, objects_of}
use Rattle.sg_plain.proofs.Found.{look, put_shown}
use Rattle.sg_plain.proofs.Steps.{done_in, none_in, unchanged, replied_in}
use Rattle.sg_plain.proofs.objects.Objects.apply_in.Goals as goal

pub returns-in_default-clause-done : goal.returns-in_default-clause-done
returns-in_default-clause-done g c =
    let t = table_of (λ p. (goal.RecordOp-dyn g p).record_meaning p.1) (λ p. (goal.RangeOp-dyn g p).range_meaning p.1) c.args.ops.now in
    let s : Objects = c.args.self.now in
    let none : get s c.args.name.now ≡ None = look shown s c.self.inside.map.entries c.args.name.now None c.self.view_is c.in_default.ensures.value in
    let same : objects_of c.get_mut.follows.lender-at-none.entries ≡ s = rw c.get_mut.follows.holds-at-none c.self.view_is in
    rw c.requires.named at (none_in t s (objects_of c.get_mut.follows.lender-at-none.entries) c.args.name.now (verb_of c.args.op.now) c.requires.in_place none same)

pub returns-clause-done : goal.returns-clause-done
returns-clause-done g c =
    let t = table_of (λ p. (goal.RecordOp-dyn g p).record_meaning p.1) (λ p. (goal.RangeOp-dyn g p).range_meaning p.1) c.args.ops.now in
    let s : Objects = c.args.self.now in
    let there : get s c.args.name.now ≡ Some (shown c.in-Some.object.now) = look shown s c.self.inside.map.entries c.args.name.now (Some c.in-Some.object.now) c.self.view_is c.in-Some.ensures.value in
    let after = c.get_mut.follows.lender c.attempt.new.self in
    let put = put_shown shown s c.self.inside.map.entries after.entries c.args.name.now c.attempt.new.self c.self.view_is ((c.get_mut.follows.holds c.attempt.new.self).3 (search rules)).0 in
    rw c.requires.named at (done_in t s (objects_of after.entries) c.args.name.now (verb_of c.args.op.now) (shown c.in-Some.object.now) (shown c.attempt.new.self) c.attempt.new.into c.attempt.result there put c.attempt.ensures.done)

pub returns-clause-err : goal.returns-clause-err
returns-clause-err g c =
    let s : Objects = c.args.self.now in
    let there : get s c.args.name.now ≡ Some (shown c.in-Some.object.now) = look shown s c.self.inside.map.entries c.args.name.now (Some c.in-Some.object.now) c.self.view_is c.in-Some.ensures.value in
    let after = c.get_mut.follows.lender c.attempt.new.self in
    let put = put_shown shown s c.self.inside.map.entries after.entries c.args.name.now c.attempt.new.self c.self.view_is ((c.get_mut.follows.holds c.attempt.new.self).3 (search rules)).0 in
    unchanged s (objects_of after.entries) c.args.name.now (shown c.in-Some.object.now) (shown c.attempt.new.self) c.attempt.result there put c.attempt.ensures.err

pub returns-clause-cause : goal.returns-clause-cause
returns-clause-cause g c =
    let t = table_of (λ p. (goal.RecordOp-dyn g p).record_meaning p.1) (λ p. (goal.RangeOp-dyn g p).range_meaning p.1) c.args.ops.now in
    let s : Objects = c.args.self.now in
    let there : get s c.args.name.now ≡ Some (shown c.in-Some.object.now) = look shown s c.self.inside.map.entries c.args.name.now (Some c.in-Some.object.now) c.self.view_is c.in-Some.ensures.value in
    rw c.requires.named at (replied_in t s c.args.name.now (verb_of c.args.op.now) (shown c.in-Some.object.now) c.attempt.result there c.attempt.ensures.cause)
