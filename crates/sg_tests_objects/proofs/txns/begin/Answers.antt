use Rattle.std.proofs.Common.{sym, ap, ◌∙◌}
use Rattle.std.specs.Option.{is_some}
use Rattle.sg_core.proofs.Callers.{above_all}
use Rattle.sg_tests_objects.proofs.txns.begin.Goals as goal

pub add-requires-clause-above : goal.add-requires-clause-above
add-requires-clause-above c =
    above_all c.args.t c.args.txns.now (sym c.is_live.ensures ∙ c.if-is_live.false) (ap is_some (sym c.next_after.ensures) ∙ (sym c.is_some.ensures ∙ c.if-is_some.false))
