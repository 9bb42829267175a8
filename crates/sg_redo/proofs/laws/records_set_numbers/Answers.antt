use Rattle.sg_redo.proofs.Numbers.{record_sets}
use Rattle.sg_redo.proofs.laws.records_set_numbers.Goals as goal

pub returns : goal.returns
returns c = record_sets
