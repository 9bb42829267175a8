use Rattle.sg_run.proofs.Log.{log_theorem}
use Rattle.sg_run.proofs.law.log_is_enough.Goals as goal

pub returns : goal.returns
returns c = log_theorem
