use Rattle.std.proofs.Common.{Result, sym, ap, ◌∙◌, subst}
use Rattle.sg_model.specs.declared.reason.Reason.{Reason}
use Rattle.sg_model.specs.Step.{pop}
use Rattle.sg_objects.specs.Found.{IsArrayFound}
use Rattle.sg_objects.specs.declared.find.ArrayAt.{ArrayAt}
use Rattle.sg_objects.proofs.Checks.{refuses_array}
use Rattle.sg_objects.proofs.Items.{pop_none}
use Rattle.sg_objects.proofs.Pushing.{items_of}
use Rattle.sg_objects.proofs.Refused.{missing_array}
use Rattle.sg_objects.proofs.check.check_pop.Goals as goal

pub returns-in-Err-clause-read : goal.returns-in-Err-clause-read
returns-in-Err-clause-read g c = λ shows s h t.
    let m = subst (λ (r : Result ArrayAt Reason). IsArrayFound c.args.name s r) c.in-Err.is (c.in_ok-reason.ensures.read shows s h) in
    missing_array s c.args.name (pop) c.in-Err.reason h m

pub returns-then-found-eq0-clause-read : goal.returns-then-found-eq0-clause-read
returns-then-found-eq0-clause-read g c = λ shows s h t.
    let f = subst (λ (r : Result ArrayAt Reason). IsArrayFound c.args.name s r) c.in-Ok.is (c.in_ok-reason.ensures.read shows s h) in
    refuses_array c.args.name pop _ f (ap (λ r. r.0) (pop_none (items_of f.array) (sym f.len_is ∙ c.if-found-eq0.true)))
