use Rattle.sg_run.proofs.Numbers.{calls_theorem}
use Rattle.sg_run.proofs.law.calls_are_serial.Goals as goal

pub returns : goal.returns
returns c = calls_theorem
