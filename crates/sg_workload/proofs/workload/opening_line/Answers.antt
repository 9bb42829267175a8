use Rattle.std.proofs.Common.{arith}
use Rattle.sg_workload.proofs.Opening.{opening-push, opening-end}
use Rattle.sg_workload.proofs.workload.opening_line.Goals as goal

pub returns-in-5-to-68-clause-line : goal.returns-in-5-to-68-clause-line
returns-in-5-to-68-clause-line c = rw (opening-push c.args.at (omega arith) (omega arith))

pub returns-in_default-clause-line : goal.returns-in_default-clause-line
returns-in_default-clause-line c = rw (opening-end c.args.at (omega arith))
