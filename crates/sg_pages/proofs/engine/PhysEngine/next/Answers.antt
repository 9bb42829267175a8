use Rattle.std.proofs.Common.{◌∙◌}
use Rattle.sg_phys_laws.proofs.Numbers.{place_by}
use Rattle.sg_record.specs.Shown.{shown}
use Rattle.sg_pages.proofs.engine.PhysEngine.next.Goals as goal

pub returns : goal.returns
returns g c = c.place.ensures ∙ place_by c.args.self.now.engine.log (shown c.args.r.now)
