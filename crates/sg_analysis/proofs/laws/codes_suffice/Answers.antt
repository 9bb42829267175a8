use Rattle.sg_analysis.proofs.Coded.{each_is_needed, open_ones_are_needed}
use Rattle.sg_analysis.proofs.laws.codes_suffice.Goals as goal

pub returns-clause-needed : goal.returns-clause-needed
returns-clause-needed c = each_is_needed

pub returns-clause-opened : goal.returns-clause-opened
returns-clause-opened c = open_ones_are_needed
