use Rattle.sg_blob.proofs.Sides.{blob_stays}
use Rattle.sg_blob.proofs.beside.stay_in_place.Goals as goal

pub returns : goal.returns
returns c = λ old new root b h page same. blob_stays old new h page same
