use Rattle.sg_tests_pages.proofs.Silent.{untold}
use Rattle.sg_tests_pages.proofs.stores.Trial.undo_one.Goals as goal

pub undo_step-requires : goal.undo_step-requires
undo_step-requires g c = λ told. absurd (untold told)

pub reverse-requires-clause-means : goal.reverse-requires-clause-means
reverse-requires-clause-means g c = λ told. absurd (untold told)

pub reverse-requires-clause-there : goal.reverse-requires-clause-there
reverse-requires-clause-there g c = λ told. absurd (untold told)

pub reverse-requires-clause-fresh : goal.reverse-requires-clause-fresh
reverse-requires-clause-fresh g c = λ told. absurd (untold told)

pub end_undo-requires-clause-can : goal.end_undo-requires-clause-can
end_undo-requires-clause-can g c = λ told. absurd (untold told)

pub end_undo-requires-clause-chain : goal.end_undo-requires-clause-chain
end_undo-requires-clause-chain g c = λ told. absurd (untold told)
