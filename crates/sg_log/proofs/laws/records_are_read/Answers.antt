use Rattle.sg_log.proofs.ReadBack.{area_reads, held_are}
use Rattle.sg_log.proofs.laws.records_are_read.Goals as goal

pub returns-clause-area : goal.returns-clause-area
returns-clause-area c = area_reads

pub returns-clause-held : goal.returns-clause-held
returns-clause-held c = held_are
