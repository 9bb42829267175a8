use Rattle.std.proofs.Common.{◌≡◌, ◌≤◌, ◌++◌, take, drop}
use Rattle.sg_ops.proofs.Ripple.{subtracted}
use Rattle.sg_ops.proofs.shipped.subtract_bytes.Given as goal

abbrev pub invariant-loop-k : goal.invariant-loop-k
invariant-loop-k l = record {
  borrow_small : l.borrow ≤ 1;
  difference : take l.k l.item ++ subtracted l.borrow (drop l.k l.item) (drop l.k l.arg) ≡ subtracted 0 l.fn.item l.arg;
}
