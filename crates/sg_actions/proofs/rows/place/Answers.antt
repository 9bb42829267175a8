use Rattle.std.proofs.Common.{◌++◌, List, take, drop, sym, ap, ◌∙◌, arith}
use Rattle.sg_actions.specs.Rows.{placed}
use Rattle.sg_actions.specs.declared.rows.Row.{Row}
use Rattle.sg_actions.proofs.Placing.{placed_at}
use Rattle.sg_actions.proofs.rows.place.Goals as goal

pub returns-then-rows-i : goal.returns-then-rows-i
returns-then-rows-i c =
    let d : Row = record { txn = record { 0 = 0 }; last = 0 } in
    sym (placed_at c.loop-i.rows c.loop-i.i c.args.txn.0 c.args.row d (omega (arith, c.loop-i-test.true, c.loop-i.auto.rows)) c.if-rows-i.true)
    ∙ (ap (λ (rs : List Row). take c.loop-i.i rs ++ placed (drop c.loop-i.i rs) c.args.txn.0 c.args.row) c.loop-i.invariant.rows ∙ sym c.loop-i.invariant.rest)
