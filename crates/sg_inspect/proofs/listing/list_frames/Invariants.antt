use Rattle.std.proofs.Common.{◌+◌, ◌-◌}
use Rattle.sg_log.specs.Frames.{LOG_END}
use Rattle.sg_inspect.proofs.Frames.{IsListed}
use Rattle.sg_inspect.proofs.listing.list_frames.Given as goal

abbrev pub invariant-frames : goal.invariant-frames
invariant-frames g l = IsListed g.D.Disk.told l.s l.area l.at (g.D.Disk.view l.fn.disk) (g.D.Disk.view l.disk) (g.K.Sink.taken l.fn.out) (g.K.Sink.taken l.out) (g.K.Sink.faults l.fn.out) (g.K.Sink.faults l.out)

abbrev pub decreases-frames : goal.decreases-frames
decreases-frames g l = LOG_END - (l.s.base + l.at)
