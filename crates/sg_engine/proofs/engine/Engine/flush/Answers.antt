use Rattle.std.proofs.Common.{inr}
use Rattle.sg_engine.proofs.Pools.{flush_call, pool_early, pool_moments, apart_here, backs_here, logged_here}
use Rattle.sg_engine.proofs.engine.Engine.flush.Goals as goal

pub returns-in-Ok-clause-goes_on : goal.returns-in-Ok-clause-goes_on
returns-in-Ok-clause-goes_on g c o ds ps told e =
    let v = g.D.Disk.view c.args.self.now.disk in
    let w = g.D.Disk.view c.flush.new.disk in
    let log = c.args.self.now.log in
    let pool = c.args.self.now.pool in
    let apart = apart_here o v w log ds ps pool e in
    let backs = backs_here o v w log ds ps pool e in
    flush_call o v w log ds ps pool e c.flush.new.log c.flush.new.self c.in-Ok.ensures.log (c.in-Ok.ensures.holds ds ps told apart backs.ready e.engine.held)
    (c.flush.ensures.moments ds ps told apart backs e.engine.held (logged_here o v w log ds ps pool e)) (g.met.D.Disk.reads c.flush.new.disk told) c.flush.ensures.size (c.in-Ok.ensures.backed told apart backs)
    (c.in-Ok.ensures.same told apart backs) c.in-Ok.ensures.written c.flush.ensures.logged

pub returns-in-Ok-clause-moments : goal.returns-in-Ok-clause-moments
returns-in-Ok-clause-moments g c o ds ps k told e early =
    let v = g.D.Disk.view c.args.self.now.disk in
    let w = g.D.Disk.view c.flush.new.disk in
    let log = c.args.self.now.log in
    let pool = c.args.self.now.pool in
    pool_moments o v w log ds ps pool e k early (c.flush.ensures.moments ds ps told (apart_here o v w log ds ps pool e) (backs_here o v w log ds ps pool e) e.engine.held (logged_here o v w log ds ps pool e))

pub returns-in-Err-clause-moments : goal.returns-in-Err-clause-moments
returns-in-Err-clause-moments g c o ds ps k told e early =
    let v = g.D.Disk.view c.args.self.now.disk in
    let w = g.D.Disk.view c.flush.new.disk in
    let log = c.args.self.now.log in
    let pool = c.args.self.now.pool in
    pool_moments o v w log ds ps pool e k early (c.flush.ensures.moments ds ps told (apart_here o v w log ds ps pool e) (backs_here o v w log ds ps pool e) e.engine.held (logged_here o v w log ds ps pool e))

pub returns-in-Ok-clause-allowed : goal.returns-in-Ok-clause-allowed
returns-in-Ok-clause-allowed g c o ds ps k told e early =
    let v = g.D.Disk.view c.args.self.now.disk in
    let w = g.D.Disk.view c.flush.new.disk in
    let log = c.args.self.now.log in
    let pool = c.args.self.now.pool in
    pool_early o v w log c.flush.new.log ds ps pool c.flush.new.self k e early (c.in-Ok.ensures.same told (apart_here o v w log ds ps pool e) (backs_here o v w log ds ps pool e)) (inr c.in-Ok.ensures.log)
