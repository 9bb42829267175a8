use Rattle.sg_redo.proofs.Saying.{fits_leaf}
use Rattle.sg_redo.proofs.laws.records_fit_as_said.Goals as goal

pub returns : goal.returns
returns c = fits_leaf
