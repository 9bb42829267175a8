use Rattle.std.proofs.Common.{Option, subst}
use Rattle.sg_pool.specs.Pooled.{sizes}
use Rattle.sg_record.specs.Changes.{Change as Changing}
use Rattle.sg_phys_laws.specs.Counted.{LiesIn}
use Rattle.sg_record.specs.Shown.{shown, shown_bytes}
use Rattle.sg_phys_laws.proofs.Lies.{bytes_lie, bytes_asked}
use Rattle.sg_phys_laws.proofs.logging.log_bytes.Goals as goal

pub log_to_band-requires-clause-fits : goal.log_to_band-requires-clause-fits
log_to_band-requires-clause-fits g c = bytes_lie (shown c.args.r.now) (shown_bytes c.args.change.now) c.requires.range c.requires.says

pub returns-clause-logs : goal.returns-clause-logs
returns-clause-logs g c own given o ds ps told a = c.log_to_band.ensures.logs own o ds ps told (bytes_asked own given o _ _ ds ps _ (shown c.args.r.now) (shown_bytes c.args.change.now) a c.requires.says)

pub returns-clause-runs : goal.returns-clause-runs
returns-clause-runs g c own given o ds ps told a = c.log_to_band.ensures.runs own o ds ps told (bytes_asked own given o _ _ ds ps _ (shown c.args.r.now) (shown_bytes c.args.change.now) a c.requires.says)

pub returns-clause-failed : goal.returns-clause-failed
returns-clause-failed g c o ds ps told e lies is = c.log_to_band.ensures.failed (subst (λ (x : Option Changing). LiesIn (sizes c.args.engine.now.pool) x) c.requires.says lies) is
