use Rattle.sg_redo.proofs.Saying.{made_said}
use Rattle.sg_redo.proofs.laws.records_make_what_is_said.Goals as goal

pub returns : goal.returns
returns c = made_said
