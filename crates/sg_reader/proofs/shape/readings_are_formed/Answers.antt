use Rattle.sg_reader.proofs.Formed.{tombs_formed}
use Rattle.sg_reader.proofs.Slots.{slot_formed}
use Rattle.sg_reader.proofs.shape.readings_are_formed.Goals as goal

pub returns-clause-slots : goal.returns-clause-slots
returns-clause-slots c = slot_formed

pub returns-clause-tombs : goal.returns-clause-tombs
returns-clause-tombs c = tombs_formed
