use Rattle.sg_hash.proofs.Sides.{made_apart, two_turn, gone_stays}
use Rattle.sg_hash.proofs.beside.stand_apart.Goals as goal

pub returns : goal.returns
returns c = record {
  made = λ old new root other t u h m. made_apart h m;
  turned = λ old new root other t t' u h x. two_turn h x;
  gone = λ old new root other t u h g. gone_stays h g;
}
