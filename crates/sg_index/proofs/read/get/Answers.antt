use Rattle.std.proofs.lemmas.Result.{err_from_is_err_and}
use Rattle.sg_index.proofs.Looking.{no_other_fault, got_none, got_other, got_same}
use Rattle.sg_index.proofs.read.get.Goals as goal

pub returns-in_err-item-clause-got : goal.returns-in_err-item-clause-got
returns-in_err-item-clause-got g c = λ entries index.
    let p = err_from_is_err_and c.from_residual.result c.from_residual.ensures.1 in
    rw (p.1, p.2) (no_other_fault c.in_err-item.field-0.0 _ _ (c.in_err-item.ensures.next entries index) c.in_err-item.ensures.failed)

pub returns-in_default-clause-got : goal.returns-in_default-clause-got
returns-in_default-clause-got g c = λ entries index. got_none _ entries c.args.key.now _ index c.in_ok-item.field-0 (c.in_ok-item.ensures.next entries index) c.in_default.is

pub returns-then-ne-clause-got : goal.returns-then-ne-clause-got
returns-then-ne-clause-got g c = λ entries index. got_other _ entries c.args.key.now _ index c.in_ok-item.field-0 (c.in_ok-item.ensures.next entries index) c.in-Some.item c.in-Some.is _ c.bytes.ensures.bytes c.if-ne.ensures

pub returns-clause-got : goal.returns-clause-got
returns-clause-got g c = λ entries index.
    got_same _ entries c.args.key.now _ index c.in_ok-item.field-0 (c.in_ok-item.ensures.next entries index) c.in-Some.item c.in-Some.is _ c.bytes.ensures.bytes c.if-ne.ensures _ c.copy_text.ensures.size c.copy_text.ensures.copied
