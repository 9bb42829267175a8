use Rattle.sg_pool.proofs.Windowing.{AreUnmarking}
use Rattle.sg_pool.proofs.clear.clear_marks.Given as goal

abbrev pub invariant-windows : goal.invariant-windows
invariant-windows l = AreUnmarking l.fn.marks.items l.marks.items l.fn.from l.w
