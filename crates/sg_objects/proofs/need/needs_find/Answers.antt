use Rattle.std.proofs.Common.{subst, Result}
use Rattle.sg_model.specs.declared.reason.Reason.{Reason}
use Rattle.sg_base.specs.declared.numbers.PageNo.{PageNo}
use Rattle.sg_model.specs.Step.{found}
use Rattle.sg_objects.specs.Found.{KeyChecked}
use Rattle.sg_objects.proofs.Applying.{checked_ok, checked_err}
use Rattle.sg_objects.proofs.Needing.{find_need}
use Rattle.sg_objects.proofs.Tables.{table_there}
use Rattle.sg_objects.proofs.need.needs_find.Goals as goal

pub returns-in-Err-clause-read : goal.returns-in-Err-clause-read
returns-in-Err-clause-read g c = λ shows s h. checked_err c.in-Err.reason (subst (λ (r : Result PageNo Reason). KeyChecked c.args.name c.args.key.now s r) c.in-Err.is (c.in_ok-reason.ensures.read shows s h) found)

pub returns-in-Ok-clause-read : goal.returns-in-Ok-clause-read
returns-in-Ok-clause-read g c = λ shows s h.
    let f = subst (λ (r : Result PageNo Reason). KeyChecked c.args.name c.args.key.now s r) c.in-Ok.is (c.in_ok-reason.ensures.read shows s h) in
    let t = table_there h f.0 in
    checked_ok _ (find_need _ f.0 t.1 f.1 f.2 c.of_pages.ensures)
