use Rattle.sg_run.proofs.Named.{named_theorem}
use Rattle.sg_run.proofs.law.named_lines_are_serial.Goals as goal

pub returns : goal.returns
returns c = named_theorem
