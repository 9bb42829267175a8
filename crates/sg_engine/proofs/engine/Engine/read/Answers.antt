use Rattle.sg_disk.proofs.Moments.{weaker}
use Rattle.sg_log.proofs.Holding.{image_now}
use Rattle.sg_engine.proofs.Pools.{rest_moments}
use Rattle.sg_engine.proofs.engine.Engine.read.Goals as goal

pub returns-in-Ok-clause-moments : goal.returns-in-Ok-clause-moments
returns-in-Ok-clause-moments g c o ds ps k told e early =
    rest_moments o (g.D.Disk.view c.args.self.now.disk) (g.D.Disk.view c.read.new.disk) c.args.self.now.log ds ps c.args.self.now.pool e k early
    (weaker (c.read.ensures.reads.any_moment told) (λ image leaves. image_now e.engine.held image leaves))

pub returns-in-Err-clause-moments : goal.returns-in-Err-clause-moments
returns-in-Err-clause-moments g c o ds ps k told e early =
    rest_moments o (g.D.Disk.view c.args.self.now.disk) (g.D.Disk.view c.read.new.disk) c.args.self.now.log ds ps c.args.self.now.pool e k early
    (weaker (c.read.ensures.reads.any_moment told) (λ image leaves. image_now e.engine.held image leaves))
