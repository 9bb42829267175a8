use Rattle.std.proofs.lemmas.Result.{err_from_is_err_and}
use Rattle.sg_index.proofs.Looking.{no_other_fault}
use Rattle.sg_index.proofs.read.next.Goals as goal

pub returns-in_err-item-clause-next : goal.returns-in_err-item-clause-next
returns-in_err-item-clause-next g c = λ entries index.
    let p = err_from_is_err_and c.from_residual.result c.from_residual.ensures.1 in
    rw (p.1, p.2) (no_other_fault c.in_err-item.field-0.0 _ _ (c.in_err-item.ensures.next entries index) c.in_err-item.ensures.failed)
