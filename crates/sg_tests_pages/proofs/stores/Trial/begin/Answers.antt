use Rattle.sg_tests_pages.proofs.Silent.{untold}
use Rattle.sg_tests_pages.proofs.stores.Trial.begin.Goals as goal

pub begin-requires-clause-can : goal.begin-requires-clause-can
begin-requires-clause-can g c = λ told. absurd (untold told)

pub begin-requires-clause-chain : goal.begin-requires-clause-chain
begin-requires-clause-chain g c = λ told. absurd (untold told)

pub begin-requires-clause-quiet : goal.begin-requires-clause-quiet
begin-requires-clause-quiet g c = λ told. absurd (untold told)
