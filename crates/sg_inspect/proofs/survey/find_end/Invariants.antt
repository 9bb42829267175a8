use Rattle.std.proofs.Common.{◌+◌, ◌-◌}
use Rattle.sg_log.specs.Frames.{LOG_END}
use Rattle.sg_inspect.proofs.Frames.{IsSurveyed}
use Rattle.sg_inspect.proofs.survey.find_end.Given as goal

abbrev pub invariant-frames : goal.invariant-frames
invariant-frames g l = IsSurveyed g.D.Disk.told l.s l.area l.at (g.D.Disk.view l.fn.disk) (g.D.Disk.view l.disk)

abbrev pub decreases-frames : goal.decreases-frames
decreases-frames g l = LOG_END - (l.s.base + l.at)
