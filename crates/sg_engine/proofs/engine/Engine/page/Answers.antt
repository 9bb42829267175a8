use Rattle.std.proofs.Common.{◌∙◌}
use Rattle.sg_engine.proofs.Pools.{page_bytes}
use Rattle.sg_engine.proofs.engine.Engine.page.Goals as goal

pub returns-clause-bytes : goal.returns-clause-bytes
returns-clause-bytes g c o ds ps e =
    let v = g.D.Disk.view c.args.self.now.disk in
    c.held.ensures.bytes v ∙ page_bytes o v v c.args.self.now.log ds ps c.args.self.now.pool c.args.p.0 e c.requires.page

pub returns-clause-held : goal.returns-clause-held
returns-clause-held g c = c.held.ensures.bytes (g.D.Disk.view c.args.self.now.disk)
