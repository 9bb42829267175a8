use Rattle.sg_tests_store.proofs.Served.{asked}
use Rattle.sg_tests_store.proofs.trial.abort.Goals as goal

pub abort-requires : goal.abort-requires
abort-requires g c = record { serves = asked _ _ _ _ _ _ }
