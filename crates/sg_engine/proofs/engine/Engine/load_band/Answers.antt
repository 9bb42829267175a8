use Rattle.sg_engine.proofs.Brought.{band_held}
use Rattle.sg_engine.proofs.Pools.{lent_band, lent_band_early, pool_moments, apart_here, backs_here, logged_here}
use Rattle.sg_engine.proofs.engine.Engine.load_band.Goals as goal

pub returns-in-Ok-clause-goes_on : goal.returns-in-Ok-clause-goes_on
returns-in-Ok-clause-goes_on g c o ds ps told e =
    let v = g.D.Disk.view c.args.self.now.disk in
    let w = g.D.Disk.view c.band.new.disk in
    let log = c.args.self.now.log in
    let pool = c.args.self.now.pool in
    let apart = apart_here o v w log ds ps pool e in
    let backs = backs_here o v w log ds ps pool e in
    lent_band o g.D.Disk.told v w log c.band.new.log ds ps pool c.band.follows.lender-at-none c.args.b.0 c.band.result c.in-Ok._bytes c.in-Ok.is c.band.follows.holds-at-none told e
    (c.in-Ok.ensures.log ds ps told apart e.engine.held) (c.band.ensures.moments ds ps told apart backs.ready e.engine.held (logged_here o v w log ds ps pool e)) (g.met.D.Disk.reads c.band.new.disk told)

pub returns-in-Ok-clause-allowed : goal.returns-in-Ok-clause-allowed
returns-in-Ok-clause-allowed g c o ds ps k told e early =
    lent_band_early o g.D.Disk.told (g.D.Disk.view c.args.self.now.disk) (g.D.Disk.view c.band.new.disk) c.args.self.now.log c.band.new.log ds ps c.args.self.now.pool c.band.follows.lender-at-none c.args.b.0 k c.band.result c.in-Ok._bytes c.in-Ok.is c.band.follows.holds-at-none told e early c.band.ensures.log_kept

pub returns-in-Ok-clause-moments : goal.returns-in-Ok-clause-moments
returns-in-Ok-clause-moments g c o ds ps k told e early =
    let v = g.D.Disk.view c.args.self.now.disk in
    let w = g.D.Disk.view c.band.new.disk in
    let log = c.args.self.now.log in
    let pool = c.args.self.now.pool in
    pool_moments o v w log ds ps pool e k early (c.band.ensures.moments ds ps told (apart_here o v w log ds ps pool e) (backs_here o v w log ds ps pool e).ready e.engine.held (logged_here o v w log ds ps pool e))

pub returns-in-Err-clause-moments : goal.returns-in-Err-clause-moments
returns-in-Err-clause-moments g c o ds ps k told e early =
    let v = g.D.Disk.view c.args.self.now.disk in
    let w = g.D.Disk.view c.band.new.disk in
    let log = c.args.self.now.log in
    let pool = c.args.self.now.pool in
    pool_moments o v w log ds ps pool e k early (c.band.ensures.moments ds ps told (apart_here o v w log ds ps pool e) (backs_here o v w log ds ps pool e).ready e.engine.held (logged_here o v w log ds ps pool e))

pub returns-in-Ok-clause-held : goal.returns-in-Ok-clause-held
returns-in-Ok-clause-held g c = band_held c.args.b.0 c.args.self.now.pool c.band.follows.lender-at-none c.band.result c.in-Ok._bytes c.in-Ok.is c.band.follows.holds-at-none.brought
