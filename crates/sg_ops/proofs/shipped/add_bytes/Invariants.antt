use Rattle.std.proofs.Common.{◌≡◌, ◌≤◌, ◌++◌, take, drop}
use Rattle.sg_ops.proofs.Ripple.{added}
use Rattle.sg_ops.proofs.shipped.add_bytes.Given as goal

abbrev pub invariant-loop-k : goal.invariant-loop-k
invariant-loop-k l = record {
  carry_small : l.carry ≤ 1;
  sum : take l.k l.item ++ added l.carry (drop l.k l.item) (drop l.k l.arg) ≡ added 0 l.fn.item l.arg;
}
