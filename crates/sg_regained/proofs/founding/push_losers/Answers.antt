use Rattle.std.proofs.Common.{sym, ap, ◌∙◌, ◌++◌, ◌∷◌, [], List}
use Rattle.sg_actions.specs.declared.rows.Row.{Row}
use Rattle.sg_regained.proofs.Losers.{one_row, pushed}
use Rattle.sg_regained.proofs.founding.push_losers.Goals as goal

pub loop-i-preserved : goal.loop-i-preserved
loop-i-preserved c =
    c.push.ensures.items ∙ (pushed c.push.result c.loop-i.rows.items (c.loop-i.rows.items ++ record { txn = c.get-last.result.0; last = c.get-last.result.1 } ∷ []) (sym c.is_err.ensures.value ∙ c.if-is_err.false)
    ∙ (ap (λ (rows : List Row). rows ++ record { txn = c.get-last.result.0; last = c.get-last.result.1 } ∷ []) c.loop-i.invariant
    ∙ sym (one_row c.args.losers.now c.loop-i.i (c.get-last.result.0.0, c.get-last.result.1) c.get-last.ensures)))
