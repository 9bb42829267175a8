use Rattle.sg_phys.specs.Phys.{IsGiven}
use Rattle.std.proofs.Common.{◌≡◌, true, false}
use Rattle.sg_pages.specs.Parts.{parts}
use Rattle.sg_phys.proofs.Seen.{keeps_broken, some_broken}
use Rattle.sg_pages.proofs.engine.PhysEngine.stop.Goals as goal

pub returns-clause-silent : goal.returns-clause-silent
returns-clause-silent g c h = let e : true ≡ false = h.whole in cc

pub returns-clause-means : goal.returns-clause-means
returns-clause-means g c = λ t from m. keeps_broken (IsGiven g.D.Disk.told g.D.Presumed.presumed) (parts g.D.Disk.view c.args.self.now) (g.D.Disk.view c.args.self.now.engine.disk) c.args.self.now.engine.log c.args.self.now.engine.pool t from m

pub invariant_of-self-clause-some : goal.invariant_of-self-clause-some
invariant_of-self-clause-some g c = some_broken (IsGiven g.D.Disk.told g.D.Presumed.presumed) (parts g.D.Disk.view c.args.self.now).past (g.D.Disk.view c.args.self.now.engine.disk) c.args.self.now.engine.log c.args.self.now.engine.pool
