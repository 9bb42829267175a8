use Rattle.std.proofs.Common.{◌||◌, map, sym, ap, ◌∙◌}
use Rattle.std.specs.Option.{is_some}
use Rattle.sg_recovery.proofs.Basic.{other_number}
use Rattle.sg_recovery.specs.Log.{is_in}
use Rattle.sg_analysis.specs.declared.row.Row.{Row}
use Rattle.sg_analysis.proofs.Kept.{find_in}
use Rattle.sg_analysis.proofs.scan.Scan.may_act.Goals as goal

pub returns-else-txn-eq0 : goal.returns-else-txn-eq0
returns-else-txn-eq0 c =
    let t = c.args.txn.0 in
    let rows = c.args.self.now.rows.items in
    c.is_some.ensures ∙ (ap is_some c.row.ensures ∙ (find_in t rows ∙ sym (ap (λ b. b || is_in t (map (λ (row : Row). row.txn.0) rows)) (other_number t 0 c.if-txn-eq0.false))))
