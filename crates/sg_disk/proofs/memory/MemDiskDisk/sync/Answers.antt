use Rattle.sg_disk.specs.Memory.{image_of}
use Rattle.sg_disk.proofs.Past.{synced_memory}
use Rattle.sg_disk.proofs.memory.MemDiskDisk.sync.Goals as goal

pub returns-clause-does : goal.returns-clause-does
returns-clause-does c told =
    let w = c.sync_part.ensures in
    synced_memory c.sync_part.result (image_of c.args.self.now.home.items c.args.self.now.log0.items c.args.self.now.log1.items) c.args.self.now.calls c.sync_part.new.calls c.args.area _ _ _ _ _ _ w.recorded w.calls_err
