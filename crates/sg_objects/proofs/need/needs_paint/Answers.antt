use Rattle.sg_objects.proofs.Applying.{checked_ok, checked_err}
use Rattle.sg_objects.proofs.BlobNeeds.{paint_need}
use Rattle.sg_objects.proofs.need.needs_paint.Goals as goal

pub returns-in-Err-clause-read : goal.returns-in-Err-clause-read
returns-in-Err-clause-read g c = λ shows s h. checked_err c.in-Err.reason ((c.in_ok-reason.ensures.read shows s h).err c.in-Err.reason c.in-Err.is)

pub returns-in-Ok-clause-read : goal.returns-in-Ok-clause-read
returns-in-Ok-clause-read g c = λ shows s h. checked_ok _ (paint_need _ ((c.in_ok-reason.ensures.read shows s h).ok c.in-Ok.found c.in-Ok.is) c.of_pages.ensures)
