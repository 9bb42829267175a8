use Rattle.std.proofs.Common.{sym, ap, ◌∙◌}
use Rattle.std.specs.Ordering.{is_eq}
use Rattle.std.proofs.lemmas.List.{get_or_default}
use Rattle.sg_index.specs.Order.{key_cmp}
use Rattle.sg_index.specs.declared.item.Item.{Item}
use Rattle.sg_index.proofs.Leaves.{same_bytes}
use Rattle.sg_index.proofs.order.has_at.Goals as goal

pub returns-clause-told : goal.returns-clause-told
returns-clause-told c = λ d lt. ap (λ (i : Item). is_eq (key_cmp i.key c.args.key.now)) (get_or_default c.args.items.now c.args.at d c.index-items-at.result lt ∙ sym c.index-items-at.is) ∙ same_bytes _ _ _ _ c.bytes.ensures.bytes c.eq.ensures
