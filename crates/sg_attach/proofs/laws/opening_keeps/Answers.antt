use Rattle.sg_attach.proofs.Opens.{opening_images}
use Rattle.sg_attach.proofs.laws.opening_keeps.Goals as goal

pub returns : goal.returns
returns c = opening_images
