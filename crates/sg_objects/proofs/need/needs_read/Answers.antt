use Rattle.std.proofs.Common.{subst, Result}
use Rattle.sg_model.specs.declared.reason.Reason.{Reason}
use Rattle.sg_objects.specs.declared.blob.BlobAt.{BlobAt}
use Rattle.sg_model.specs.Verb.Verb.{Read}
use Rattle.sg_objects.specs.Blobs.{CanReadFrom}
use Rattle.sg_objects.specs.Found.{Checked}
use Rattle.sg_objects.proofs.Applying.{checked_ok}
use Rattle.sg_objects.proofs.BlobNeeds.{read_need}
use Rattle.sg_objects.proofs.Needing.{checked_all}
use Rattle.sg_objects.proofs.need.needs_read.Goals as goal

pub returns-in-Err-clause-read : goal.returns-in-Err-clause-read
returns-in-Err-clause-read g c = λ shows s h. checked_all c.in-Err.reason (subst (λ (r : Result BlobAt Reason). Checked c.args.name (Read c.args.at c.args.count) s (CanReadFrom c.args.name c.args.at c.args.count s) r) c.in-Err.is (c.in_ok-reason.ensures.read shows s h))

pub returns-in-Ok-clause-read : goal.returns-in-Ok-clause-read
returns-in-Ok-clause-read g c = λ shows s h. checked_ok _ (read_need _ (subst (λ (r : Result BlobAt Reason). Checked c.args.name (Read c.args.at c.args.count) s (CanReadFrom c.args.name c.args.at c.args.count s) r) c.in-Ok.is (c.in_ok-reason.ensures.read shows s h)) c.of_pages.ensures)
