use Rattle.std.proofs.Common.{sym}
use Rattle.sg_base.specs.declared.area.Area.TheVariants.{Home}
use Rattle.sg_engine.proofs.Pools.{log_apart, force_call, rest_early, rest_moments}
use Rattle.sg_engine.proofs.engine.Engine.force.Goals as goal

pub returns-in-Ok-clause-goes_on : goal.returns-in-Ok-clause-goes_on
returns-in-Ok-clause-goes_on g c o ds ps told e =
    let v = g.D.Disk.view c.args.self.now.disk in
    let w = g.D.Disk.view c.force.new.disk in
    let log = c.args.self.now.log in
    let home = c.in-Ok.ensures.elsewhere told Home (λ at. log_apart o log e.engine.place (sym at)) in
    force_call o v w log ds ps c.args.self.now.pool e c.force.new.self c.in-Ok.ensures.log home (c.in-Ok.ensures.holds ds ps told e.engine.held)

pub returns-in-Ok-clause-moments : goal.returns-in-Ok-clause-moments
returns-in-Ok-clause-moments g c o ds ps k told e early =
    rest_moments o (g.D.Disk.view c.args.self.now.disk) (g.D.Disk.view c.force.new.disk) c.args.self.now.log ds ps c.args.self.now.pool e k early (c.force.ensures.any_moment ds ps told e.engine.held)

pub returns-in-Err-clause-moments : goal.returns-in-Err-clause-moments
returns-in-Err-clause-moments g c o ds ps k told e early =
    rest_moments o (g.D.Disk.view c.args.self.now.disk) (g.D.Disk.view c.force.new.disk) c.args.self.now.log ds ps c.args.self.now.pool e k early (c.force.ensures.any_moment ds ps told e.engine.held)

pub returns-in-Ok-clause-allowed : goal.returns-in-Ok-clause-allowed
returns-in-Ok-clause-allowed g c o ds ps k told e early =
    let log = c.args.self.now.log in
    rest_early o (g.D.Disk.view c.args.self.now.disk) (g.D.Disk.view c.force.new.disk) log c.force.new.self ds ps c.args.self.now.pool k e early (c.in-Ok.ensures.elsewhere told Home (λ at. log_apart o log e.engine.place (sym at))) c.in-Ok.ensures.log
