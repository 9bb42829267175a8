use Rattle.sg_actions.proofs.Given.{next_first, gives_as_put}
use Rattle.sg_actions.proofs.notes.undos_come_to_notes.Goals as goal

pub returns : goal.returns
returns c = record { next = next_first; bytes = gives_as_put }
