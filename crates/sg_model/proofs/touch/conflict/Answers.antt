use Rattle.sg_model.specs.Resources.{shown_touch}
use Rattle.sg_model.proofs.Meeting.{conflict_is}
use Rattle.sg_model.proofs.touch.conflict.Goals as goal

pub returns-clause-exact : goal.returns-clause-exact
returns-clause-exact c = conflict_is c.is_conflict.result (shown_touch c.args.a.now) (shown_touch c.args.b.now) c.is_conflict.ensures
