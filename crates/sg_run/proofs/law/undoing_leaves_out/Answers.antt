use Rattle.sg_run.proofs.Noted.{undoing}
use Rattle.sg_run.proofs.law.undoing_leaves_out.Goals as goal

pub returns : goal.returns
returns c = undoing
