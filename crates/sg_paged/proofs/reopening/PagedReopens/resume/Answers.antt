use Rattle.sg_paged.proofs.Resumed.{counts_ok, counts_err}
use Rattle.sg_paged.proofs.reopening.PagedReopens.resume.Goals as goal

pub returns-in-Ok-clause-done : goal.returns-in-Ok-clause-done
returns-in-Ok-clause-done g c = counts_ok _ c.in-Ok.ensures.done

pub returns-in-Err-clause-failed : goal.returns-in-Err-clause-failed
returns-in-Err-clause-failed g c = counts_err c.in-Err.ensures.failed
