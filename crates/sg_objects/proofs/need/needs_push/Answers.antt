use Rattle.std.proofs.Common.{subst, Result, length}
use Rattle.sg_model.specs.declared.reason.Reason.{Reason}
use Rattle.sg_model.specs.Verb.Verb.{Push}
use Rattle.sg_objects.specs.Found.{Checked, CanPushTo}
use Rattle.sg_objects.specs.declared.find.ArrayAt.{ArrayAt}
use Rattle.sg_objects.proofs.Applying.{checked_ok}
use Rattle.sg_objects.proofs.Needing.{checked_all, push_need}
use Rattle.sg_objects.proofs.need.needs_push.Goals as goal

pub returns-in-Err-clause-read : goal.returns-in-Err-clause-read
returns-in-Err-clause-read g c = λ shows s h. checked_all c.in-Err.reason (subst (λ (r : Result ArrayAt Reason). Checked c.args.name (Push c.args.value.now) s (CanPushTo c.args.name (length c.args.value.now) s) r) c.in-Err.is (c.in_ok-reason.ensures.read shows s h))

pub returns-in-Ok-clause-read : goal.returns-in-Ok-clause-read
returns-in-Ok-clause-read g c = λ shows s h. checked_ok _ (push_need _ (subst (λ (r : Result ArrayAt Reason). Checked c.args.name (Push c.args.value.now) s (CanPushTo c.args.name (length c.args.value.now) s) r) c.in-Ok.is (c.in_ok-reason.ensures.read shows s h)) c.of_pages.ensures)
