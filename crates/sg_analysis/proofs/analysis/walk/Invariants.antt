use Rattle.std.proofs.Common.{◌+◌, ◌-◌}
use Rattle.sg_log.specs.Frames.{LOG_END}
use Rattle.sg_analysis.specs.Walks.{IsWalked}
use Rattle.sg_analysis.proofs.analysis.walk.Given as goal

abbrev pub invariant-frames : goal.invariant-frames
invariant-frames g l = IsWalked g.D.Disk.told l.area l.base l.at (g.D.Disk.view l.fn.disk) (g.D.Disk.view l.disk) l.scan

abbrev pub decreases-frames : goal.decreases-frames
decreases-frames g l = LOG_END - (l.base + l.at)
