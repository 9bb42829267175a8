use Rattle.std.proofs.Common.{Some, None, sym, ◌∙◌}
use Rattle.sg_recovery.proofs.Basic.{other_number}
use Rattle.sg_analysis.proofs.GoingOn.{border_if-own}
use Rattle.sg_analysis.proofs.scan.Scan.border_if.Goals as goal

pub returns-in-None : goal.returns-in-None
returns-in-None c base ns k = border_if-own c.args.self.now base ns c.args.txn.0 None k (other_number c.args.txn.0 0 c.if-txn-eq0.false) (sym c.in-None.is ∙ c.row.ensures)

pub returns-in-Some : goal.returns-in-Some
returns-in-Some c base ns k = border_if-own c.args.self.now base ns c.args.txn.0 (Some c.in-Some.row) k (other_number c.args.txn.0 0 c.if-txn-eq0.false) (sym c.in-Some.is ∙ c.row.ensures)
