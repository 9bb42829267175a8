use Rattle.sg_objects.proofs.Stepping.{step_is}
use Rattle.sg_objects.proofs.laws.performing_is_a_step.Goals as goal

pub returns : goal.returns
returns c = record { is_step = λ t by name verb outcome note old new before after d. step_is t by name verb outcome d }
