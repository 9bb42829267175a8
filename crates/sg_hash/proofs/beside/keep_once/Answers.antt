use Rattle.sg_hash.proofs.Onces.{once}
use Rattle.sg_hash.proofs.beside.keep_once.Goals as goal

pub returns : goal.returns
returns c = λ at root t h. once h
