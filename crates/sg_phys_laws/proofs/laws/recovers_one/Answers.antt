use Rattle.sg_phys_laws.proofs.Opened.{recovers_same}
use Rattle.sg_phys_laws.proofs.laws.recovers_one.Goals as goal

pub returns : goal.returns
returns c = recovers_same
