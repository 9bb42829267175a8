use Rattle.std.proofs.Common.{ℕ, subst, Result}
use Rattle.sg_model.specs.declared.reason.Reason.{Reason}
use Rattle.sg_objects.specs.Found.{LenChecked}
use Rattle.sg_objects.proofs.Applying.{checked_ok, checked_err}
use Rattle.sg_objects.proofs.Needing.{len_need}
use Rattle.sg_objects.proofs.need.needs_len.Goals as goal

pub returns-in-Err-clause-read : goal.returns-in-Err-clause-read
returns-in-Err-clause-read g c = λ shows s h. checked_err c.in-Err.reason (subst (λ (r : Result ℕ Reason). LenChecked c.args.name s r) c.in-Err.is (c.in_ok-reason.ensures.read shows s h))

pub returns-in-Ok-clause-read : goal.returns-in-Ok-clause-read
returns-in-Ok-clause-read g c = λ shows s h. checked_ok _ (len_need _ c.in-Ok.found (subst (λ (r : Result ℕ Reason). LenChecked c.args.name s r) c.in-Ok.is (c.in_ok-reason.ensures.read shows s h)) c.of_pages.ensures)
