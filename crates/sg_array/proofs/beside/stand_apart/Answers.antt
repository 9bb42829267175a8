use Rattle.sg_array.proofs.Sides.{two_turn, made_apart, gone_stays}
use Rattle.sg_array.proofs.beside.stand_apart.Goals as goal

pub returns : goal.returns
returns c = record {
  made = λ old new root size other b h m. made_apart h m;
  turned = λ old new root other a a' b h t. two_turn h t;
  gone = λ old new root other a b h x. gone_stays h x;
}
