use Rattle.sg_phys_laws.proofs.Opened.{opened_poised}
use Rattle.sg_phys_laws.proofs.laws.opened_is_poised.Goals as goal

pub returns : goal.returns
returns c = opened_poised
