use Rattle.sg_kept.proofs.Saying.{kept_says, more_says}
use Rattle.sg_kept.proofs.laws.kept_says_all.Goals as goal

pub returns-clause-kept : goal.returns-clause-kept
returns-clause-kept g c = λ p kept gone parted own formed at. kept_says p kept gone parted own formed at

pub returns-clause-more : goal.returns-clause-more
returns-clause-more g c = λ more kept log same. more_says more kept log same
