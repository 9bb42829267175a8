use Rattle.sg_tests_store.proofs.Served.{asked}
use Rattle.sg_tests_store.proofs.trial.perform.Goals as goal

pub perform-requires-clause-serves : goal.perform-requires-clause-serves
perform-requires-clause-serves g c = asked _ _ _ _ _ _
