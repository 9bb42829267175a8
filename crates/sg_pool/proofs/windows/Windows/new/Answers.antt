use Rattle.sg_pool.proofs.Windowing.{windows_new}
use Rattle.sg_pool.proofs.windows.Windows.new.Goals as goal

pub invariant_of-result : goal.invariant_of-result
invariant_of-result c = record {
  windows = windows_new c.args.windows c.args.bands c.in_ok-slots.slots.items c.in_ok-slots.index.items c.in-Ok.marks.items c.requires.windows.0 c.requires.windows.1 c.in_ok-slots.ensures.slots c.in_ok-slots.ensures.index c.in-Ok.ensures;
}
