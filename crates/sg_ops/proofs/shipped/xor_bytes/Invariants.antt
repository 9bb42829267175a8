use Rattle.std.proofs.Common.{◌≡◌, ℕ, ◌<◌, ◌≤◌, slice_index}
use Rattle.std.specs.Int.Bits.{bit_xor}
use Rattle.sg_ops.proofs.shipped.xor_bytes.Given as goal

abbrev pub invariant-loop-k : goal.invariant-loop-k
invariant-loop-k l = record {
  done : (j : ℕ) → j < l.k → slice_index l.item j ≡ bit_xor (slice_index l.fn.item j) (slice_index l.arg j);
  same : (j : ℕ) → l.k ≤ j → slice_index l.item j ≡ slice_index l.fn.item j;
}
