use Rattle.sg_tests_pages.proofs.Silent.{untold}
use Rattle.sg_tests_pages.proofs.stores.Trial.does.Goals as goal

pub end_action-requires-clause-can : goal.end_action-requires-clause-can
end_action-requires-clause-can g c = λ told. absurd (untold told)

pub end_action-requires-clause-chain : goal.end_action-requires-clause-chain
end_action-requires-clause-chain g c = λ told. absurd (untold told)
