use Rattle.sg_redo.proofs.Saying.{leaf_follows}
use Rattle.sg_redo.proofs.laws.redo_is_the_step.Goals as goal

pub returns : goal.returns
returns c = leaf_follows
