use Rattle.sg_model.proofs.Footprint.{footprint}
use Rattle.sg_model.proofs.law.steps_keep_to_touches.Goals as goal

pub returns : goal.returns
returns c = footprint
