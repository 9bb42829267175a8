use Rattle.std.proofs.Common.{◌≡◌, ◌==◌, length, find}
use Rattle.sg_ops.specs.Table.{range_of}
use Rattle.sg_ops.proofs.entries.find_range.Given as goal

-- what is found in the rest is what is found in all
abbrev pub invariant-loop-entry : goal.invariant-loop-entry
invariant-loop-entry g l =
    find (λ entry. (range_of (λ b. (goal.RangeOp-dyn g (b.vtable, b.value)).range_meaning b.value) entry).code == l.code) l.rest
    ≡ find (λ entry. (range_of (λ b. (goal.RangeOp-dyn g (b.vtable, b.value)).range_meaning b.value) entry).code == l.code) l.ranges

abbrev pub decreases-loop-entry : goal.decreases-loop-entry
decreases-loop-entry g l = length l.rest
