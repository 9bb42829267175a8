use Rattle.std.proofs.Common.{false, sym, subst, ap}
use Rattle.sg_phys.specs.Phys.{IsGiven, Past, StandsForSome, past_of, gone_by, settled}
use Rattle.sg_pages.proofs.phys.Phys.new.Goals as goal

pub invariant_of-result-clause-some : goal.invariant_of-result-clause-some
invariant_of-result-clause-some g c =
    subst (λ (past : Past). StandsForSome (IsGiven g.D.Disk.told g.D.Presumed.presumed) false past (g.D.Disk.view c.args.engine.disk) c.args.engine.log c.args.engine.pool)
    (sym (ap (λ l. past_of (g.D.Disk.view c.args.found.value) c.args.superblock (gone_by l (λ e. g.D.Disk.view e.value) (λ x. settled x.area x.base x.gate) (λ x. x.start)) c.args.checkpoint) c.new.ensures)) c.requires.some
