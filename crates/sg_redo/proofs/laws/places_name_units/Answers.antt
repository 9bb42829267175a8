use Rattle.sg_redo.proofs.Naming.{unit_named}
use Rattle.sg_redo.proofs.laws.places_name_units.Goals as goal

pub returns : goal.returns
returns c = unit_named
