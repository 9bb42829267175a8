use Rattle.std.proofs.Common.{Result, sym, ap, ◌∙◌, subst, arith}
use Rattle.sg_model.specs.declared.reason.Reason.{Reason}
use Rattle.sg_model.specs.Step.{at_item, set_to}
use Rattle.sg_objects.specs.Found.{IsArrayFound}
use Rattle.sg_objects.specs.declared.find.ArrayAt.{ArrayAt}
use Rattle.sg_objects.proofs.Checks.{refuses_array}
use Rattle.sg_objects.proofs.Items.{at_none, unfit_row, some_there}
use Rattle.sg_objects.proofs.Pushing.{items_of}
use Rattle.sg_objects.proofs.Refused.{missing_array}
use Rattle.sg_objects.proofs.check.check_set.Goals as goal

pub returns-in-Err-clause-read : goal.returns-in-Err-clause-read
returns-in-Err-clause-read g c = λ shows s h t.
    let m = subst (λ (r : Result ArrayAt Reason). IsArrayFound c.args.name s r) c.in-Err.is (c.in_ok-reason.ensures.read shows s h) in
    missing_array s c.args.name (at_item c.args.index (set_to c.args.value.now)) c.in-Err.reason h m

pub returns-then-index-found-clause-read : goal.returns-then-index-found-clause-read
returns-then-index-found-clause-read g c = λ shows s h t.
    let f = subst (λ (r : Result ArrayAt Reason). IsArrayFound c.args.name s r) c.in-Ok.is (c.in_ok-reason.ensures.read shows s h) in
    refuses_array c.args.name (at_item c.args.index (set_to c.args.value.now)) _ f (ap (λ r. r.0) (at_none (items_of f.array) c.args.index (set_to c.args.value.now) (let len = f.len_is in let more = c.if-index-found.true in omega arith)))

pub returns-then-value-found-clause-read : goal.returns-then-value-found-clause-read
returns-then-value-found-clause-read g c = λ shows s h t.
    let f = subst (λ (r : Result ArrayAt Reason). IsArrayFound c.args.name s r) c.in-Ok.is (c.in_ok-reason.ensures.read shows s h) in
    let item = some_there (f.array).items c.args.index (let len = f.len_is in let less = c.if-index-found.false in omega arith) in
    refuses_array c.args.name (at_item c.args.index (set_to c.args.value.now)) _ f (ap (λ r. r.0) (unfit_row (items_of f.array) c.args.index item.0 c.args.value.now item.1 (λ e. c.if-value-found.true (e ∙ sym f.size_is))))
