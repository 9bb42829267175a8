use Rattle.std.proofs.Common.{◌∙◌}
use Rattle.sg_engine.proofs.Pools.{band_bytes}
use Rattle.sg_engine.proofs.engine.Engine.band.Goals as goal

pub returns-clause-bytes : goal.returns-clause-bytes
returns-clause-bytes g c o ds ps e i small =
    let v = g.D.Disk.view c.args.self.now.disk in
    c.held_band.ensures.bytes v i small ∙ band_bytes o v v c.args.self.now.log ds ps c.args.self.now.pool c.args.b.0 i e c.requires.band small

pub returns-clause-held : goal.returns-clause-held
returns-clause-held g c i small = c.held_band.ensures.bytes (g.D.Disk.view c.args.self.now.disk) i small
