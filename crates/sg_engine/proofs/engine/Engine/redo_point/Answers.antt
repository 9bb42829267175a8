use Rattle.std.proofs.Common.{arith}
use Rattle.sg_engine.proofs.Pools.{point_allowed, unwritten_low}
use Rattle.sg_engine.proofs.engine.Engine.redo_point.Goals as goal

pub returns-in-Some-clause-allowed : goal.returns-in-Some-clause-allowed
returns-in-Some-clause-allowed g c o ds ps e =
    point_allowed o (g.D.Disk.view c.args.self.now.disk) c.args.self.now.log ds ps c.args.self.now.pool c.in-Some.lsn e c.in-Some.ensures.least
    (unwritten_low o (g.D.Disk.view c.args.self.now.disk) c.args.self.now.log ds ps c.args.self.now.pool c.in-Some.lsn e c.in-Some.ensures.some)

pub returns-in-None-clause-allowed : goal.returns-in-None-clause-allowed
returns-in-None-clause-allowed g c o ds ps e =
    point_allowed o (g.D.Disk.view c.args.self.now.disk) c.args.self.now.log ds ps c.args.self.now.pool c.tail.result e (λ lsn is. absurd (c.in-None.ensures.none lsn is)) (omega (arith, c.tail.ensures))

pub returns-in-None-clause-least : goal.returns-in-None-clause-least
returns-in-None-clause-least g c lsn is = absurd (c.in-None.ensures.none lsn is)
