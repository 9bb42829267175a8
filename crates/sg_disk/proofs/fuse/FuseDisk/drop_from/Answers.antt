use Rattle.sg_disk.proofs.Refused.{refused_counts, refused_does}
use Rattle.sg_disk.proofs.Images.{drop_keeps}
use Rattle.sg_disk.proofs.fuse.FuseDisk.drop_from.Goals as goal

pub returns-else-next_passes-clause-counts : goal.returns-else-next_passes-clause-counts
returns-else-next_passes-clause-counts g c = refused_counts _ 0 (g.D.Disk.view c.args.self.now.inner) c.args.self.now.refused c.next_passes.new.refused (c.next_passes.ensures.counted c.if-next_passes.false) c.next_passes.ensures.no_fewer

pub returns-else-next_passes-clause-does : goal.returns-else-next_passes-clause-does
returns-else-next_passes-clause-does g c told = refused_does _ (g.D.Disk.view c.args.self.now.inner) c.args.self.now.refused c.next_passes.new.refused _ _ (drop_keeps (g.D.Disk.view c.args.self.now.inner).now c.args.area c.args.at)
