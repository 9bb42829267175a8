use Rattle.sg_model.proofs.Noted.{undoable}
use Rattle.sg_model.proofs.law.steps_are_undoable.Goals as goal

pub returns : goal.returns
returns c = undoable
