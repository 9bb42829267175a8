use Rattle.sg_actions.proofs.Sized.{repeated_sized}
use Rattle.sg_phys_laws.proofs.Opened.{recovered_sized}
use Rattle.sg_phys_laws.proofs.laws.sizes_stay.Goals as goal

pub returns : goal.returns
returns c = record { steps = repeated_sized; images = recovered_sized }
