use Rattle.stasis.proofs.Tables.{are_maps}
use Rattle.stasis.proofs.laws.tables_are_maps.Goals as goal

pub returns : goal.returns
returns c = are_maps
