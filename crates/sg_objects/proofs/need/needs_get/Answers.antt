use Rattle.std.proofs.Common.{subst, Result}
use Rattle.sg_model.specs.declared.reason.Reason.{Reason}
use Rattle.sg_model.specs.Verb.Verb.{Get}
use Rattle.sg_objects.specs.Found.{Checked, HasItem}
use Rattle.sg_objects.specs.declared.find.ArrayAt.{ArrayAt}
use Rattle.sg_objects.proofs.Applying.{checked_ok}
use Rattle.sg_objects.proofs.Needing.{checked_all, get_need}
use Rattle.sg_objects.proofs.need.needs_get.Goals as goal

pub returns-in-Err-clause-read : goal.returns-in-Err-clause-read
returns-in-Err-clause-read g c = λ shows s h. checked_all c.in-Err.reason (subst (λ (r : Result ArrayAt Reason). Checked c.args.name (Get c.args.index) s (HasItem c.args.name c.args.index s) r) c.in-Err.is (c.in_ok-reason.ensures.read shows s h))

pub returns-in-Ok-clause-read : goal.returns-in-Ok-clause-read
returns-in-Ok-clause-read g c = λ shows s h. checked_ok _ (get_need _ (subst (λ (r : Result ArrayAt Reason). Checked c.args.name (Get c.args.index) s (HasItem c.args.name c.args.index s) r) c.in-Ok.is (c.in_ok-reason.ensures.read shows s h)) c.of_pages.ensures)
