use Rattle.std.proofs.Common.{◌≡◌, length}
use Rattle.sg_pool.proofs.making.no_changes.Given as goal

abbrev pub invariant-windows : goal.invariant-windows
invariant-windows l = length l.marks.items ≡ l._k
