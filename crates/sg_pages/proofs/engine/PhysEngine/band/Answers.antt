use Rattle.std.proofs.Common.{◌<◌, ◌≤◌, arith, refl, ◌∙◌}
use Rattle.sg_base.specs.declared.page.TheConstants.{BAND_SIZE}
use Rattle.sg_phys.proofs.Told.{shown_band}
use Rattle.sg_pages.proofs.Zeros.{shown_none, zeros_listed}
use Rattle.sg_pages.proofs.engine.PhysEngine.band.Goals as goal

pub returns-then-b-bands-clause-looked : goal.returns-then-b-bands-clause-looked
returns-then-b-bands-clause-looked g c =
    let past = c.if-b-bands.true in
    let many = c.bands.ensures in
    shown_none (g.D.Disk.view c.args.self.now.engine.disk) c.args.self.now.engine.pool c.args.b.0 (omega (arith, past, many)) ∙ zeros_listed BAND_SIZE _ refl refl

pub returns-clause-looked : goal.returns-clause-looked
returns-clause-looked g c = shown_band (g.D.Disk.view c.args.self.now.engine.disk) c.args.self.now.engine.pool c.args.b.0 c.band.result.now (omega (arith, c.if-b-bands.false, c.bands.ensures)) c.band.ensures.size c.band.ensures.held
