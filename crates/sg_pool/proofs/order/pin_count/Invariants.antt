use Rattle.std.proofs.Common.{◌≡◌, ◌++◌, ℕ, Bool, List, length}
use Rattle.sg_pool.specs.Order.{pins_of}
use Rattle.sg_pool.proofs.order.pin_count.Given as goal

abbrev pub decreases-loop-frame : goal.decreases-loop-frame
decreases-loop-frame l = length l.left

abbrev pub invariant-loop-frame : goal.invariant-loop-frame
invariant-loop-frame l = (ys : List (ℕ × Bool)) × (l.fn.order.entries ≡ l.left ++ ys) × (l.count ≡ pins_of ys)
