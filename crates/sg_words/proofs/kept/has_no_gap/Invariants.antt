use Rattle.std.proofs.Common.{◌≡◌, ◌≤◌, ◌-◌, drop, not}
use Rattle.std.specs.Prelude.{◌&&◌}
use Rattle.sg_words.specs.Spoken.{has_gap}
use Rattle.sg_words.proofs.kept.has_no_gap.Given as goal

-- what has been looked at has no gap, or the whole text has one
abbrev pub invariant-loop-i : goal.invariant-loop-i
invariant-loop-i l = record { begun : 1 ≤ l.i; rest : (l.no_gap && not (has_gap (drop (l.i - 1) l.text))) ≡ not (has_gap l.text) }
