use Rattle.std.proofs.Common.{◌≡◌, ap, ◌∙◌, List, length}
use Rattle.sg_actions.specs.Rows.{placed}
use Rattle.sg_actions.specs.declared.rows.Row.{Row}
use Rattle.sg_actions.proofs.Placing.{front_is, length-placed, after_none, after_one}
use Rattle.sg_actions.proofs.rows.keep_row.Goals as goal

pub returns-then-txn-eq0 : goal.returns-then-txn-eq0
returns-then-txn-eq0 c = after_none c.args.rows.now.items c.args.txn c.args.lsn c.if-txn-eq0.true

pub returns : goal.returns
returns c =
    let row : Row = record { txn = c.args.txn; last = c.args.lsn } in
    let long : length c.place.new.rows ≡ c.args.rows.now.len = ap length c.place.ensures ∙ (length-placed c.as_mut_slice.result.now c.args.txn.0 row ∙ c.as_mut_slice.ensures.len) in
    front_is c.args.rows.now.len c.place.new.rows _ long ∙ (c.place.ensures ∙ (ap (λ (rs : List Row). placed rs c.args.txn.0 row) c.as_mut_slice.ensures.value ∙ after_one c.args.rows.now.items c.args.txn c.args.lsn c.if-txn-eq0.false))
