use Rattle.sg_hash.proofs.Bounds.{bound}
use Rattle.sg_hash.proofs.beside.keep_bound.Goals as goal

pub returns : goal.returns
returns c = λ at root t h. bound h
