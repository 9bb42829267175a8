use Rattle.sg_recovery.proofs.Wording as wording
use Rattle.sg_recovery.proofs.Chaining as chaining
use Rattle.sg_recovery.proofs.Opening as opening
use Rattle.sg_recovery.proofs.Meeting as meeting
use Rattle.sg_recovery.proofs.walks.notes_are_found.Goals as goal

pub returns-clause-sentence : goal.returns-clause-sentence
returns-clause-sentence g c = wording.tally_in_words

pub returns-clause-chains : goal.returns-clause-chains
returns-clause-chains g c = chaining.sound

pub returns-clause-finds : goal.returns-clause-finds
returns-clause-finds g c = opening.walk_finds

pub returns-clause-end : goal.returns-clause-end
returns-clause-end g c = opening.walk_ends

pub returns-clause-greatest : goal.returns-clause-greatest
returns-clause-greatest g c = opening.greatest_found

pub returns-clause-below : goal.returns-clause-below
returns-clause-below g c = meeting.does_chained

pub returns-clause-last : goal.returns-clause-last
returns-clause-last g c = meeting.last_of_own
