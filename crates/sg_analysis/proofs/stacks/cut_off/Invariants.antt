use Rattle.std.proofs.Common.{◌≡◌, ℕ, List, length}
use Rattle.sg_analysis.specs.Analysis.{oldest_first}
use Rattle.sg_analysis.specs.Firsts.{cut_to}
use Rattle.sg_analysis.proofs.stacks.cut_off.Given as goal

-- what is left of the numbers is cut as they are
abbrev pub invariant-above : goal.invariant-above
invariant-above l = (ns : List ℕ) → l.fn.numbers.items ≡ oldest_first ns → (ms : List ℕ) × (l.numbers.items ≡ oldest_first ms) × (cut_to l.least ms ≡ cut_to l.least ns)

abbrev pub decreases-above : goal.decreases-above
decreases-above l = length l.numbers.items
