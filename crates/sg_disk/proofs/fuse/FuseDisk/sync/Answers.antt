use Rattle.sg_disk.proofs.Refused.{refused_counts}
use Rattle.sg_disk.proofs.fuse.FuseDisk.sync.Goals as goal

pub returns-else-next_passes-clause-counts : goal.returns-else-next_passes-clause-counts
returns-else-next_passes-clause-counts g c = refused_counts _ 0 (g.D.Disk.view c.args.self.now.inner) c.args.self.now.refused c.next_passes.new.refused (c.next_passes.ensures.counted c.if-next_passes.false) c.next_passes.ensures.no_fewer
