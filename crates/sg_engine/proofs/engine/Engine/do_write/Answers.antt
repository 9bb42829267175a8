use Rattle.sg_record.specs.Shown.{shown, shown_bytes}
use Rattle.sg_engine.proofs.Says.{lies_said, says_write}
use Rattle.sg_engine.proofs.engine.Engine.do_write.Goals as goal

pub change_band-requires-clause-fits : goal.change_band-requires-clause-fits
change_band-requires-clause-fits g c = lies_said (shown c.args.r.now) (shown_bytes c.args.change.now) c.requires.range c.requires.says

pub returns-clause-goes_on : goal.returns-clause-goes_on
returns-clause-goes_on g c o ds ps told e may =
    c.change_band.ensures.goes_on o ds ps told e
    (says_write o (g.D.Disk.view c.args.self.now.disk) c.args.self.now.log ds ps c.args.self.now.pool may.0 (shown c.args.r.now) e may.1 (shown_bytes c.args.change.now) c.requires.says c.requires.band)

pub returns-clause-moments : goal.returns-clause-moments
returns-clause-moments g c o ds ps k told e early may =
    c.change_band.ensures.moments o ds ps k told e early
    (says_write o (g.D.Disk.view c.args.self.now.disk) c.args.self.now.log ds ps c.args.self.now.pool may.0 (shown c.args.r.now) e may.1 (shown_bytes c.args.change.now) c.requires.says c.requires.band)
