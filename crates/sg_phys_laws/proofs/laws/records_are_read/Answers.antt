use Rattle.sg_phys_laws.proofs.Reading.{held_are}
use Rattle.sg_phys_laws.proofs.laws.records_are_read.Goals as goal

pub returns : goal.returns
returns c = held_are
