use Rattle.sg_attach.proofs.Known.{none_unknown}
use Rattle.sg_attach.proofs.laws.none_is_unknown.Goals as goal

pub returns : goal.returns
returns c = none_unknown
