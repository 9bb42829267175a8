use Rattle.std.proofs.Common.{◌≡◌, ℕ, ◌<◌, ◌+◌, slice_index}
use Rattle.sg_ops.specs.Shipped.{ramp_byte}
use Rattle.sg_ops.proofs.shipped.RampRangeOp.render.Given as goal

abbrev pub invariant-loop-k : goal.invariant-loop-k
invariant-loop-k l = record {
  from : l.first ≡ slice_index l.arg 0;
  done : (j : ℕ) → j < l.k → slice_index l.into j ≡ ramp_byte l.arg (l.pos + j);
}
