use Rattle.stasis.proofs.Arrays.{are_lists}
use Rattle.stasis.proofs.laws.arrays_are_lists.Goals as goal

pub returns : goal.returns
returns c = are_lists
