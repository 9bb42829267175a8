use Rattle.sg_tests_pages.proofs.Silent.{untold}
use Rattle.sg_tests_pages.proofs.stores.Trial.gives_up.Goals as goal

pub take_off-requires-clause-well : goal.take_off-requires-clause-well
take_off-requires-clause-well g c = λ told. absurd (untold told)

pub take_off-requires-clause-by : goal.take_off-requires-clause-by
take_off-requires-clause-by g c = λ told. absurd (untold told)
