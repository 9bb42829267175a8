use Rattle.std.proofs.Common.{◌≡◌, drop}
use Rattle.sg_analysis.specs.Past.{over_of}
use Rattle.sg_analysis.proofs.past.Past.get.Given as goal

-- it is not among those that were seen
abbrev pub invariant-loop-over : goal.invariant-loop-over
invariant-loop-over l = over_of l.txn.0 (drop l.over-index l.self.rows.items) ≡ over_of l.txn.0 l.self.rows.items
