use Rattle.sg_reading.proofs.Plainly as plainly
use Rattle.sg_reading.proofs.undoing.notes_are_plain.Goals as goal

pub returns-clause-objects : goal.returns-clause-objects
returns-clause-objects c = plainly.unstep_tie

pub returns-clause-verb : goal.returns-clause-verb
returns-clause-verb c = λ t law d cs verb s. plainly.noted_tie t law d s.buried cs verb s.thing
