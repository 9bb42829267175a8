use Rattle.sg_run.proofs.Serial.{serial_theorem}
use Rattle.sg_run.proofs.law.runs_are_serial.Goals as goal

pub returns : goal.returns
returns c = serial_theorem
