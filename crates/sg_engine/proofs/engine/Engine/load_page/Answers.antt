use Rattle.sg_engine.proofs.Brought.{brought_held}
use Rattle.sg_engine.proofs.Pools.{lent_page, lent_page_early, pool_moments, apart_here, backs_here, logged_here, well_here, bring_failed}
use Rattle.sg_engine.proofs.engine.Engine.load_page.Goals as goal

pub returns-in-Ok-clause-goes_on : goal.returns-in-Ok-clause-goes_on
returns-in-Ok-clause-goes_on g c o ds ps told e =
    let v = g.D.Disk.view c.args.self.now.disk in
    let w = g.D.Disk.view c.page.new.disk in
    let log = c.args.self.now.log in
    let pool = c.args.self.now.pool in
    let apart = apart_here o v w log ds ps pool e in
    let backs = backs_here o v w log ds ps pool e in
    lent_page o g.D.Disk.told v w log c.page.new.log ds ps pool c.page.follows.lender-at-none c.args.p.0 c.page.result c.in-Ok._bytes c.in-Ok.is c.page.follows.holds-at-none told e
    (c.in-Ok.ensures.log ds ps told apart backs.ready e.engine.held) (c.page.ensures.moments ds ps told apart backs.ready e.engine.held (logged_here o v w log ds ps pool e)) (g.met.D.Disk.reads c.page.new.disk told)

pub returns-in-Ok-clause-allowed : goal.returns-in-Ok-clause-allowed
returns-in-Ok-clause-allowed g c o ds ps k told e early =
    lent_page_early o g.D.Disk.told (g.D.Disk.view c.args.self.now.disk) (g.D.Disk.view c.page.new.disk) c.args.self.now.log c.page.new.log ds ps c.args.self.now.pool c.page.follows.lender-at-none c.args.p.0 k c.page.result c.in-Ok._bytes c.in-Ok.is c.page.follows.holds-at-none told e early c.page.ensures.log_kept

pub returns-in-Ok-clause-moments : goal.returns-in-Ok-clause-moments
returns-in-Ok-clause-moments g c o ds ps k told e early =
    let v = g.D.Disk.view c.args.self.now.disk in
    let w = g.D.Disk.view c.page.new.disk in
    let log = c.args.self.now.log in
    let pool = c.args.self.now.pool in
    pool_moments o v w log ds ps pool e k early (c.page.ensures.moments ds ps told (apart_here o v w log ds ps pool e) (backs_here o v w log ds ps pool e).ready e.engine.held (logged_here o v w log ds ps pool e))

pub returns-in-Err-clause-moments : goal.returns-in-Err-clause-moments
returns-in-Err-clause-moments g c o ds ps k told e early =
    let v = g.D.Disk.view c.args.self.now.disk in
    let w = g.D.Disk.view c.page.new.disk in
    let log = c.args.self.now.log in
    let pool = c.args.self.now.pool in
    pool_moments o v w log ds ps pool e k early (c.page.ensures.moments ds ps told (apart_here o v w log ds ps pool e) (backs_here o v w log ds ps pool e).ready e.engine.held (logged_here o v w log ds ps pool e))

pub returns-in-Err-clause-failed : goal.returns-in-Err-clause-failed
returns-in-Err-clause-failed g c o ds ps told e is_disk near =
    let v = g.D.Disk.view c.args.self.now.disk in
    let w = g.D.Disk.view c.page.new.disk in
    let log = c.args.self.now.log in
    let pool = c.args.self.now.pool in
    bring_failed g.D.Disk.told log.area c.args.p.0 v w pool c.in-Err.field-0 c.in-Err.ensures.faults told (apart_here o v w log ds ps pool e) (backs_here o v w log ds ps pool e) (well_here o v w log ds ps pool e c.args.p.0 c.requires.page) near

pub returns-in-Ok-clause-held : goal.returns-in-Ok-clause-held
returns-in-Ok-clause-held g c = brought_held c.args.p.0 c.args.self.now.pool c.page.follows.lender-at-none c.page.result c.in-Ok._bytes c.in-Ok.is c.page.follows.holds-at-none.brought
