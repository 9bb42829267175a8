use Rattle.std.proofs.lemmas.Result.{err_from_is_err_and}
use Rattle.sg_index.proofs.Faults.{fault_weaker}
use Rattle.sg_index.proofs.Looking.{has_header}
use Rattle.sg_index.proofs.Removing.{removed_none, there_none}
use Rattle.sg_index.proofs.take.remove.Goals as goal

pub returns-in_err-header-clause-taken : goal.returns-in_err-header-clause-taken
returns-in_err-header-clause-taken g c = λ entries index.
    let p = err_from_is_err_and c.from_residual.result c.from_residual.ensures.1 in
    rw (p.1, p.2) (fault_weaker c.in_err-header.field-0.0 {C = ⊥} (λ risen. tt) (has_header _ entries index) (λ no. no) c.in_err-header.ensures.failed)

pub returns-in_default-clause-taken : goal.returns-in_default-clause-taken
returns-in_default-clause-taken g c = λ entries index. removed_none _ _ c.in_ok-header.ensures.kept entries c.args.key.now index (rw c.in_default.is at c.in_ok-header.ensures.found)

pub returns-in_default-clause-there : goal.returns-in_default-clause-there
returns-in_default-clause-there g c = λ entries index. there_none _ entries c.args.key.now index (rw c.in_default.is at c.in_ok-header.ensures.found)
