use Rattle.sg_recovery.proofs.Opening as opening
use Rattle.sg_recovery.proofs.walks.nothing_is_undone_twice.Goals as goal

pub returns-clause-gone : goal.returns-clause-gone
returns-clause-gone g c = opening.greatest_gone

pub returns-clause-other : goal.returns-clause-other
returns-clause-other g c = opening.never_twice
