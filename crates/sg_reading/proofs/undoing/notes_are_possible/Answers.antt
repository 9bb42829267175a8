use Rattle.sg_reading.proofs.Possible as possible
use Rattle.sg_reading.proofs.Keeping as keeping
use Rattle.sg_reading.proofs.Stock as stock
use Rattle.sg_reading.proofs.undoing.notes_are_possible.Goals as goal

pub returns-clause-possible : goal.returns-clause-possible
returns-clause-possible c = possible.possible

pub returns-clause-only : goal.returns-clause-only
returns-clause-only c = possible.possible_only

pub returns-clause-formed : goal.returns-clause-formed
returns-clause-formed c = keeping.note_formed

pub returns-clause-around : goal.returns-clause-around
returns-clause-around c = stock.note_around

pub returns-clause-others : goal.returns-clause-others
returns-clause-others c = stock.note_others
