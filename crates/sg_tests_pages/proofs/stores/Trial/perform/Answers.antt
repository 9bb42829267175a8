use Rattle.sg_tests_pages.proofs.Silent.{untold}
use Rattle.sg_tests_pages.proofs.stores.Trial.perform.Goals as goal

pub act-requires-clause-can : goal.act-requires-clause-can
act-requires-clause-can g c = λ told. absurd (untold told)

pub act-requires-clause-chain : goal.act-requires-clause-chain
act-requires-clause-chain g c = λ told. absurd (untold told)

pub perform-requires-clause-means : goal.perform-requires-clause-means
perform-requires-clause-means g c = λ told. absurd (untold told)

pub perform-requires-clause-there : goal.perform-requires-clause-there
perform-requires-clause-there g c = λ told. absurd (untold told)

pub perform-requires-clause-fresh : goal.perform-requires-clause-fresh
perform-requires-clause-fresh g c = λ told. absurd (untold told)
