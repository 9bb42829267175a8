use Rattle.std.proofs.lemmas.Result.{err_from_is_err_and}
use Rattle.sg_index.proofs.Faults.{fault_weaker}
use Rattle.sg_index.proofs.Looking.{has_header}
use Rattle.sg_index.proofs.Beginning.{begun, begun_new, begun_fits}
use Rattle.sg_index.proofs.put.insert.Goals as goal

pub returns-in_err-header-clause-put : goal.returns-in_err-header-clause-put
returns-in_err-header-clause-put g c = λ entries index.
    let p = err_from_is_err_and c.from_residual.result c.from_residual.ensures.1 in
    rw (p.1, p.2) (fault_weaker c.in_err-header.field-0.0 {C = ⊥} (λ risen. tt) (has_header _ entries index) (λ no. absurd no) c.in_err-header.ensures.failed)

pub returns-in_default-clause-put : goal.returns-in_default-clause-put
returns-in_default-clause-put g c = λ entries index.
    begun _ _ entries _ _ index (rw c.in_default.is at c.in_ok-header.ensures.found) (rw c.in_ok-header.ensures.kept at c.in_ok-begin.ensures.begun) c.requires.some c.requires.few c.requires.short

pub returns-in_default-clause-new : goal.returns-in_default-clause-new
returns-in_default-clause-new g c = λ entries index. begun_new _ entries _ index (rw c.in_default.is at c.in_ok-header.ensures.found)

pub returns-in_default-clause-fits : goal.returns-in_default-clause-fits
returns-in_default-clause-fits g c = begun_fits _ _ (rw c.in_default.is at c.in_ok-header.ensures.found)
