use Rattle.sg_phys_laws.proofs.Recovered.{image_is}
use Rattle.sg_phys_laws.proofs.laws.images_recover.Goals as goal

pub returns : goal.returns
returns c = image_is
