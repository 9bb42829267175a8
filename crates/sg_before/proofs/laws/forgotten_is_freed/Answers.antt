use Rattle.sg_reading.specs.Model.{bare_ground}
use Rattle.sg_before.proofs.Forgot.{forgot_freed}
use Rattle.sg_before.proofs.laws.forgotten_is_freed.Goals as goal

pub returns : goal.returns
returns c = λ t. forgot_freed t bare_ground
