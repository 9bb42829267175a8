use Rattle.std.proofs.Common.{length}
use Rattle.sg_disk.specs.Memory.{bytes_of, IsCrashing}
use Rattle.sg_base.specs.declared.area.Area.TheVariants.{Home, Log0, Log1}
use Rattle.sg_disk.proofs.crash.crash_all.Given as goal

abbrev pub invariant-loop-call : goal.invariant-loop-call
invariant-loop-call l = record {
  at_home : IsCrashing l.fn.calls l.calls Home l.unsynced_home (bytes_of l.fn.home.items) (bytes_of l.home.items);
  at_log0 : IsCrashing l.fn.calls l.calls Log0 l.unsynced_log0 (bytes_of l.fn.log0.items) (bytes_of l.log0.items);
  at_log1 : IsCrashing l.fn.calls l.calls Log1 l.unsynced_log1 (bytes_of l.fn.log1.items) (bytes_of l.log1.items);
}

abbrev pub decreases-loop-call : goal.decreases-loop-call
decreases-loop-call l = length l.calls
