use Rattle.sg_actions.proofs.AtRest.{still_is}
use Rattle.sg_actions.proofs.acts.Acts.is_still.Goals as goal

pub returns : goal.returns
returns g c = still_is _ _ _ _ _
