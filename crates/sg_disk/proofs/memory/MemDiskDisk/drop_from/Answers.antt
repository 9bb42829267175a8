use Rattle.std.proofs.Common.{refl}
use Rattle.sg_disk.specs.Areas.{three}
use Rattle.sg_disk.specs.Memory.{image_of}
use Rattle.sg_base.specs.declared.area.Area.TheVariants.{Home, Log0, Log1}
use Rattle.sg_disk.proofs.Past.{dropped_memory_at, failed_drop_memory}
use Rattle.sg_disk.proofs.memory.MemDiskDisk.drop_from.Goals as goal

pub returns-in-Home-clause-does : goal.returns-in-Home-clause-does
returns-in-Home-clause-does c told =
    let w = c.drop_part.ensures in
    dropped_memory_at (image_of c.args.self.now.home.items c.args.self.now.log0.items c.args.self.now.log1.items) (image_of c.drop_part.new.bytes.items c.args.self.now.log0.items c.args.self.now.log1.items) Home (three _ refl refl refl) c.drop_part.result c.args.self.now.calls c.drop_part.new.calls c.args.at _ _ _ _ _ _ c.args.area c.in-Home.is w.bytes w.recorded w.bytes_err w.calls_err

pub returns-in-Log0-clause-does : goal.returns-in-Log0-clause-does
returns-in-Log0-clause-does c told =
    let w = c.drop_part-in-Log0.ensures in
    dropped_memory_at (image_of c.args.self.now.home.items c.args.self.now.log0.items c.args.self.now.log1.items) (image_of c.args.self.now.home.items c.drop_part-in-Log0.new.bytes.items c.args.self.now.log1.items) Log0 (three _ refl refl refl) c.drop_part-in-Log0.result c.args.self.now.calls c.drop_part-in-Log0.new.calls c.args.at _ _ _ _ _ _ c.args.area c.in-Log0.is w.bytes w.recorded w.bytes_err w.calls_err

pub returns-in-Log1-clause-does : goal.returns-in-Log1-clause-does
returns-in-Log1-clause-does c told =
    let w = c.drop_part-in-Log1.ensures in
    dropped_memory_at (image_of c.args.self.now.home.items c.args.self.now.log0.items c.args.self.now.log1.items) (image_of c.args.self.now.home.items c.args.self.now.log0.items c.drop_part-in-Log1.new.bytes.items) Log1 (three _ refl refl refl) c.drop_part-in-Log1.result c.args.self.now.calls c.drop_part-in-Log1.new.calls c.args.at _ _ _ _ _ _ c.args.area c.in-Log1.is w.bytes w.recorded w.bytes_err w.calls_err

pub returns-then-falls-clause-does : goal.returns-then-falls-clause-does
returns-then-falls-clause-does c told =
    let w = c.failed_drop.ensures in
    failed_drop_memory c.failed_drop.result w.result (image_of c.args.self.now.home.items c.args.self.now.log0.items c.args.self.now.log1.items) c.args.self.now.calls c.failed_drop.new.calls c.args.area c.args.at _ _ _ _ _ _ w.recorded
