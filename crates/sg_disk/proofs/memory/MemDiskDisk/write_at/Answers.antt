use Rattle.std.proofs.Common.{refl}
use Rattle.sg_disk.specs.Areas.{three}
use Rattle.sg_disk.specs.Memory.{image_of}
use Rattle.sg_base.specs.declared.area.Area.TheVariants.{Home, Log0, Log1}
use Rattle.sg_disk.proofs.Past.{wrote_memory_at, failed_memory}
use Rattle.sg_disk.proofs.memory.MemDiskDisk.write_at.Goals as goal

pub returns-in-Home-clause-does : goal.returns-in-Home-clause-does
returns-in-Home-clause-does c told =
    let w = c.write_part.ensures in
    wrote_memory_at (image_of c.args.self.now.home.items c.args.self.now.log0.items c.args.self.now.log1.items) (image_of c.write_part.new.bytes.items c.args.self.now.log0.items c.args.self.now.log1.items) Home (three _ refl refl refl) c.write_part.result c.args.self.now.calls c.write_part.new.calls c.args.at c.args.bytes.now _ _ _ _ _ _ c.args.area c.in-Home.is w.bytes w.recorded w.bytes_err w.calls_err

pub returns-in-Log0-clause-does : goal.returns-in-Log0-clause-does
returns-in-Log0-clause-does c told =
    let w = c.write_part-in-Log0.ensures in
    wrote_memory_at (image_of c.args.self.now.home.items c.args.self.now.log0.items c.args.self.now.log1.items) (image_of c.args.self.now.home.items c.write_part-in-Log0.new.bytes.items c.args.self.now.log1.items) Log0 (three _ refl refl refl) c.write_part-in-Log0.result c.args.self.now.calls c.write_part-in-Log0.new.calls c.args.at c.args.bytes.now _ _ _ _ _ _ c.args.area c.in-Log0.is w.bytes w.recorded w.bytes_err w.calls_err

pub returns-in-Log1-clause-does : goal.returns-in-Log1-clause-does
returns-in-Log1-clause-does c told =
    let w = c.write_part-in-Log1.ensures in
    wrote_memory_at (image_of c.args.self.now.home.items c.args.self.now.log0.items c.args.self.now.log1.items) (image_of c.args.self.now.home.items c.args.self.now.log0.items c.write_part-in-Log1.new.bytes.items) Log1 (three _ refl refl refl) c.write_part-in-Log1.result c.args.self.now.calls c.write_part-in-Log1.new.calls c.args.at c.args.bytes.now _ _ _ _ _ _ c.args.area c.in-Log1.is w.bytes w.recorded w.bytes_err w.calls_err

pub returns-then-falls-clause-does : goal.returns-then-falls-clause-does
returns-then-falls-clause-does c told =
    let w = c.failed_write.ensures in
    failed_memory c.failed_write.result w.result (image_of c.args.self.now.home.items c.args.self.now.log0.items c.args.self.now.log1.items) c.args.self.now.calls c.failed_write.new.calls c.args.area c.args.at _ c.args.bytes.now _ _ _ _ _ _ refl w.recorded
