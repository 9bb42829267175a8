use Rattle.sg_tests_pages.proofs.Silent.{untold}
use Rattle.sg_tests_pages.proofs.stores.Trial.commit.Goals as goal

pub commit-requires-clause-can : goal.commit-requires-clause-can
commit-requires-clause-can g c = λ told. absurd (untold told)

pub commit-requires-clause-chain : goal.commit-requires-clause-chain
commit-requires-clause-chain g c = λ told. absurd (untold told)

pub commit-requires-clause-quiet : goal.commit-requires-clause-quiet
commit-requires-clause-quiet g c = λ told. absurd (untold told)

pub end-requires-clause-can : goal.end-requires-clause-can
end-requires-clause-can g c = λ told. absurd (untold told)

pub end-requires-clause-chain : goal.end-requires-clause-chain
end-requires-clause-chain g c = λ told. absurd (untold told)

pub end-requires-clause-quiet : goal.end-requires-clause-quiet
end-requires-clause-quiet g c = λ told. absurd (untold told)
