use Rattle.std.proofs.lemmas.Bool.{OnTrue_from, OnTrue_at, OnFalse_from, OnFalse_at}
use Rattle.sg_step.proofs.Sheets.{changed_sheet, same_sheet}
use Rattle.sg_step.specs.Changed.{changed}
use Rattle.sg_step.proofs.page.apply.Goals as goal

pub returns-in-Item-clause-done : goal.returns-in-Item-clause-done
returns-in-Item-clause-done g c = rw c.in-Item.is (OnTrue_from c.apply_item.result _ (λ yes. changed_sheet _ _ _ _ c.apply_item.ensures.header (OnTrue_at yes c.apply_item.ensures.done)))

pub returns-in-Item-clause-refused : goal.returns-in-Item-clause-refused
returns-in-Item-clause-refused g c = rw c.in-Item.is (OnFalse_from c.apply_item.result _ (λ no. same_sheet _ _ _ (OnFalse_at no c.apply_item.ensures.refused)))

pub returns-in-ItemBack-clause-done : goal.returns-in-ItemBack-clause-done
returns-in-ItemBack-clause-done g c = rw c.in-ItemBack.is (OnTrue_from c.apply_item-in-ItemBack.result _ (λ yes. changed_sheet _ _ _ _ c.apply_item-in-ItemBack.ensures.header (OnTrue_at yes c.apply_item-in-ItemBack.ensures.done)))

pub returns-in-Item-clause-bytes : goal.returns-in-Item-clause-bytes
unfolding changed
returns-in-Item-clause-bytes g c = rw c.in-Item.is c.apply_item.ensures.bytes

pub returns-in-ItemBack-clause-bytes : goal.returns-in-ItemBack-clause-bytes
unfolding changed
returns-in-ItemBack-clause-bytes g c = rw c.in-ItemBack.is c.apply_item-in-ItemBack.ensures.bytes
