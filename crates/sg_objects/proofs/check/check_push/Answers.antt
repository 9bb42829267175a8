use Rattle.std.proofs.Common.{Result, sym, ◌∙◌, subst, arith}
use Rattle.sg_model.specs.declared.reason.Reason.{Reason}
use Rattle.sg_model.specs.Step.{push}
use Rattle.sg_objects.specs.Found.{IsArrayFound}
use Rattle.sg_objects.specs.declared.find.ArrayAt.{ArrayAt}
use Rattle.sg_objects.proofs.Checks.{refuses_array, push_unfit, push_full}
use Rattle.sg_objects.proofs.Pushing.{items_of}
use Rattle.sg_objects.proofs.Refused.{missing_array}
use Rattle.sg_objects.proofs.check.check_push.Goals as goal

pub returns-in-Err-clause-read : goal.returns-in-Err-clause-read
returns-in-Err-clause-read g c = λ shows s h t.
    let m = subst (λ (r : Result ArrayAt Reason). IsArrayFound c.args.name s r) c.in-Err.is (c.in_ok-reason.ensures.read shows s h) in
    missing_array s c.args.name (push c.args.value.now) c.in-Err.reason h m

pub returns-then-value-found-clause-read : goal.returns-then-value-found-clause-read
returns-then-value-found-clause-read g c = λ shows s h t.
    let f = subst (λ (r : Result ArrayAt Reason). IsArrayFound c.args.name s r) c.in-Ok.is (c.in_ok-reason.ensures.read shows s h) in
    refuses_array c.args.name (push c.args.value.now) _ f (push_unfit c.args.value.now (items_of f.array) (λ e. c.if-value-found.true (e ∙ sym f.size_is)))

pub returns-then-found-ge-MOST-clause-read : goal.returns-then-found-ge-MOST-clause-read
returns-then-found-ge-MOST-clause-read g c = λ shows s h t.
    let f = subst (λ (r : Result ArrayAt Reason). IsArrayFound c.args.name s r) c.in-Ok.is (c.in_ok-reason.ensures.read shows s h) in
    refuses_array c.args.name (push c.args.value.now) _ f (push_full c.args.value.now (items_of f.array) (c.if-value-found.false ∙ f.size_is) (let len = f.len_is in let more = c.if-found-ge-MOST.true in omega arith))
