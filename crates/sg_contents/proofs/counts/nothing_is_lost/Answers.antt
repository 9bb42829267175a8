use Rattle.sg_contents.proofs.Lost as lost
use Rattle.sg_contents.proofs.counts.nothing_is_lost.Goals as goal

pub returns : goal.returns
returns c = record { lost = λ space s h counted exact exact_bands. lost.nothing_lost h counted exact exact_bands }
