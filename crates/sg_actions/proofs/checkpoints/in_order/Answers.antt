use Rattle.std.proofs.Common.{◌≡◌, List, length, ap, subst, sym, ◌∙◌}
use Rattle.std.specs.List.Sorted.{IsNonDecreasingBy}
use Rattle.sg_actions.specs.declared.rows.Row.{Row}
use Rattle.sg_actions.proofs.Placing.{front_is}
use Rattle.sg_actions.proofs.checkpoints.in_order.Goals as goal

pub returns-clause-rising : goal.returns-clause-rising
returns-clause-rising c =
    let n = length c.args.rows.now in
    let copied : length c.copy_from_slice.new.self ≡ n = ap length c.copy_from_slice.ensures.after in
    let long : length c.order.new.rows ≡ n = c.order.ensures.long ∙ (ap length (front_is n c.copy_from_slice.new.self _ copied) ∙ copied) in
    subst (λ (rows : List Row). IsNonDecreasingBy (λ r. r.txn.0) rows) (sym (front_is n c.order.new.rows _ long)) c.order.ensures.rising
