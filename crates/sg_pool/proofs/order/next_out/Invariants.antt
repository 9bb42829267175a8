use Rattle.std.proofs.Common.{◌≡◌, ◌++◌, ℕ, Bool, IsTrue, List, length}
use Rattle.std.specs.List.{All}
use Rattle.sg_pool.proofs.order.next_out.Given as goal

abbrev pub decreases-loop-frame : goal.decreases-loop-frame
decreases-loop-frame l = length l.left

abbrev pub invariant-loop-frame : goal.invariant-loop-frame
invariant-loop-frame l = (ys : List (ℕ × Bool)) × (l.fn.order.entries ≡ l.left ++ ys) × All (λ e. IsTrue e.1) ys
