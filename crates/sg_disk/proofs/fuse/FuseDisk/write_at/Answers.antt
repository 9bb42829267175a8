use Rattle.std.proofs.Common.{length}
use Rattle.sg_disk.proofs.Refused.{refused_counts, refused_does}
use Rattle.sg_disk.proofs.Images.{write_keeps}
use Rattle.sg_disk.proofs.fuse.FuseDisk.write_at.Goals as goal

pub returns-else-next_passes-clause-counts : goal.returns-else-next_passes-clause-counts
returns-else-next_passes-clause-counts g c = refused_counts _ (length c.args.bytes.now) (g.D.Disk.view c.args.self.now.inner) c.args.self.now.refused c.next_passes.new.refused (c.next_passes.ensures.counted c.if-next_passes.false) c.next_passes.ensures.no_fewer

pub returns-else-next_passes-clause-does : goal.returns-else-next_passes-clause-does
returns-else-next_passes-clause-does g c told = refused_does _ (g.D.Disk.view c.args.self.now.inner) c.args.self.now.refused c.next_passes.new.refused _ _ (write_keeps (g.D.Disk.view c.args.self.now.inner).now c.args.area c.args.at c.args.bytes.now)
