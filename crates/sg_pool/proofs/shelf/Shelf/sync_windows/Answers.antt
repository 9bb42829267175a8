use Rattle.sg_pool.specs.Shelves.{geometry_of}
use Rattle.sg_pool.proofs.Banding.{bands_synced, synced_logs, sync_torn}
use Rattle.sg_pool.proofs.shelf.Shelf.sync_windows.Goals as goal

pub returns-in-Ok-clause-home : goal.returns-in-Ok-clause-home
returns-in-Ok-clause-home g c told ready = let s = c.args.self.now in
    bands_synced (geometry_of s) s.wins s.frames.windows (g.D.Disk.view c.args.disk.now).now (g.D.Disk.view c.write_windows.new.disk).now (g.D.Disk.view c.sync.new.self).now c.args.from c.args.to ready (c.in_ok-write_windows.ensures.done told) (c.in-Ok.ensures.does told).ok

pub returns-in-Ok-clause-logs : goal.returns-in-Ok-clause-logs
returns-in-Ok-clause-logs g c told = let s = c.args.self.now in
    synced_logs (geometry_of s) s.wins s.frames.windows (g.D.Disk.view c.args.disk.now).now (g.D.Disk.view c.write_windows.new.disk).now (g.D.Disk.view c.sync.new.self).now c.args.from c.args.to (c.in_ok-write_windows.ensures.done told) (c.in-Ok.ensures.does told).ok

pub returns-in-Ok-clause-any_moment : goal.returns-in-Ok-clause-any_moment
returns-in-Ok-clause-any_moment g c told = let s = c.args.self.now in
    sync_torn (geometry_of s) s.wins s.frames.windows (g.D.Disk.view c.args.disk.now) (g.D.Disk.view c.write_windows.new.disk) (g.D.Disk.view c.sync.new.self) c.sync.result c.args.from c.args.to (c.in_ok-write_windows.ensures.done told) (c.write_windows.ensures.any_moment told) (c.sync.ensures.does told)

pub returns-in-Err-clause-any_moment : goal.returns-in-Err-clause-any_moment
returns-in-Err-clause-any_moment g c told = let s = c.args.self.now in
    sync_torn (geometry_of s) s.wins s.frames.windows (g.D.Disk.view c.args.disk.now) (g.D.Disk.view c.write_windows.new.disk) (g.D.Disk.view c.sync.new.self) c.sync.result c.args.from c.args.to (c.in_ok-write_windows.ensures.done told) (c.write_windows.ensures.any_moment told) (c.sync.ensures.does told)
