use Rattle.sg_attach.proofs.Undamaged.{never_damaged}
use Rattle.sg_attach.proofs.laws.images_are_undamaged.Goals as goal

pub returns : goal.returns
returns c = never_damaged
