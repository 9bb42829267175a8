use Rattle.sg_catalog.proofs.Sides.{catalog_stays}
use Rattle.sg_catalog.proofs.beside.stay_in_place.Goals as goal

pub returns : goal.returns
returns c = λ old new d h same. catalog_stays h same
