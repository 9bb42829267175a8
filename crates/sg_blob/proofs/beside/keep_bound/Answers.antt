use Rattle.sg_blob.proofs.Sides.{exact}
use Rattle.sg_blob.proofs.beside.keep_bound.Goals as goal

pub returns : goal.returns
returns c = λ pages bands root b h. exact b h
