use Rattle.std.proofs.Common.{◌≡◌, ℕ, ◌<◌, ◌+◌, slice_index}
use Rattle.sg_ops.specs.Shipped.{fill_byte}
use Rattle.sg_ops.proofs.shipped.fill.Given as goal

abbrev pub invariant-loop-k : goal.invariant-loop-k
invariant-loop-k l = (j : ℕ) → j < l.k → slice_index l.into j ≡ fill_byte l.arg (l.pos + j)
