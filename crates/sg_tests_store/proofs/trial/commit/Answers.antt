use Rattle.sg_tests_store.proofs.Served.{asked}
use Rattle.sg_tests_store.proofs.trial.commit.Goals as goal

pub commit-requires : goal.commit-requires
commit-requires g c = record { serves = asked _ _ _ _ _ _ }
