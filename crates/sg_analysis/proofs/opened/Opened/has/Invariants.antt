use Rattle.std.proofs.Common.{◌≡◌, drop}
use Rattle.sg_analysis.specs.Analysis.{is_number}
use Rattle.sg_analysis.proofs.opened.Opened.has.Given as goal

-- it is not among those that were seen
abbrev pub invariant-loop-number : goal.invariant-loop-number
invariant-loop-number l = is_number l.lsn (drop l.number-index l.number-items) ≡ is_number l.lsn l.number-items
