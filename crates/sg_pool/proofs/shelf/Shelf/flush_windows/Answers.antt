use Rattle.sg_base.specs.declared.area.Area.TheVariants.{Home}
use Rattle.sg_pool.specs.Bands.{AreCleared}
use Rattle.sg_pool.specs.Shelves.{geometry_of}
use Rattle.sg_pool.proofs.HomesKept.{bands_superblock}
use Rattle.sg_pool.proofs.BandsHome.{bands_cleaned, bands_backed, cleared_lasts, lasts_below}
use Rattle.sg_pool.proofs.shelf.Shelf.flush_windows.Goals as goal

pub returns-clause-backed : goal.returns-clause-backed
returns-clause-backed g c told backed =
    let s = c.args.self.now in let v = g.D.Disk.view c.args.disk.now in let z = g.D.Disk.view c.sync_windows.new.disk in
    let clear : AreCleared s.wins c.clear.new.self 0 c.len-count.result = record { count = c.clear.ensures.count; numbers = c.clear.ensures.numbers; cleared = c.clear.ensures.cleared; unmarked = c.clear.ensures.unmarked; others = c.clear.ensures.others; other_marks = c.clear.ensures.other_marks } in
    bands_backed (geometry_of s) s.wins 0 c.len-count.result s.slots.items s.frames c.clear.new.self clear (v.now Home) (z.now Home) (c.in_ok-sync_windows.ensures.home told backed.ready) backed

pub returns-clause-units : goal.returns-clause-units
returns-clause-units g c told ready =
    let s = c.args.self.now in let v = g.D.Disk.view c.args.disk.now in let z = g.D.Disk.view c.sync_windows.new.disk in
    let clear : AreCleared s.wins c.clear.new.self 0 c.len-count.result = record { count = c.clear.ensures.count; numbers = c.clear.ensures.numbers; cleared = c.clear.ensures.cleared; unmarked = c.clear.ensures.unmarked; others = c.clear.ensures.others; other_marks = c.clear.ensures.other_marks } in
    bands_cleaned (geometry_of s) s.wins 0 c.len-count.result s.slots.items s.frames c.clear.new.self clear (v.now Home) (z.now Home) (c.in_ok-sync_windows.ensures.home told ready)

pub returns-clause-logged : goal.returns-clause-logged
returns-clause-logged g c tail below = let s = c.args.self.now in
    let clear : AreCleared s.wins c.clear.new.self 0 c.len-count.result = record { count = c.clear.ensures.count; numbers = c.clear.ensures.numbers; cleared = c.clear.ensures.cleared; unmarked = c.clear.ensures.unmarked; others = c.clear.ensures.others; other_marks = c.clear.ensures.other_marks } in
    lasts_below s.wins c.clear.new.self tail (cleared_lasts s.wins c.clear.new.self 0 c.len-count.result clear) below

pub returns-clause-superblock : goal.returns-clause-superblock
returns-clause-superblock g c told ready =
    let s = c.args.self.now in let v = g.D.Disk.view c.args.disk.now in let z = g.D.Disk.view c.sync_windows.new.disk in
    let clear : AreCleared s.wins c.clear.new.self 0 c.len-count.result = record { count = c.clear.ensures.count; numbers = c.clear.ensures.numbers; cleared = c.clear.ensures.cleared; unmarked = c.clear.ensures.unmarked; others = c.clear.ensures.others; other_marks = c.clear.ensures.other_marks } in
    bands_superblock (geometry_of s) s.wins 0 c.len-count.result s.slots.items s.frames c.clear.new.self clear (v.now Home) (z.now Home) (c.in_ok-sync_windows.ensures.home told ready)
