use Rattle.std.proofs.Common.{◌≡◌, drop, map}
use Rattle.sg_analysis.specs.Unended.{start_of, has_start}
use Rattle.sg_analysis.proofs.unended.Unended.has.Given as goal

-- it is not among those that were seen
abbrev pub invariant-loop-action : goal.invariant-loop-action
invariant-loop-action l = has_start l.txn.0 (map start_of (drop l.action-index l.self.actions.items)) ≡ has_start l.txn.0 (map start_of l.self.actions.items)
