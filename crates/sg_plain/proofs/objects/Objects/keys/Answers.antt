use Rattle.std.proofs.Common.{sym, None, Err, refl}
use Rattle.sg_model.specs.declared.reason.Reason.TheVariants.{NoObject}
use Rattle.sg_plain.specs.Shown.{shown}
use Rattle.sg_plain.proofs.Steps.{keys_in, keys_there, keys_reply}
use Rattle.sg_plain.proofs.objects.Objects.keys.Goals as goal

pub returns-in-None-clause-done : goal.returns-in-None-clause-done
returns-in-None-clause-done c = λ t. keys_in t c.args.self.now c.args.name None (Err NoObject) (sym c.in-None.ensures) refl

pub returns-in-Some-clause-done : goal.returns-in-Some-clause-done
returns-in-Some-clause-done c = keys_there c.args.self.now c.args.name (shown c.in-Some.object.now) c.keys.result (sym c.in-Some.ensures) c.keys.ensures.done

pub returns-in-Some-clause-cause : goal.returns-in-Some-clause-cause
returns-in-Some-clause-cause c = keys_reply c.args.self.now c.args.name (shown c.in-Some.object.now) c.keys.result (sym c.in-Some.ensures) c.keys.ensures.cause
