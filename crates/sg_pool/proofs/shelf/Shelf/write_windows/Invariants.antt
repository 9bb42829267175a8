use Rattle.std.proofs.Common.{◌≡◌, ◌≤◌, IsTrue}
use Rattle.sg_disk.specs.Disk.{LeavesOnly}
use Rattle.sg_window.specs.Runs.{IsTorn}
use Rattle.sg_pool.specs.Bands.{IsDirty, AreBandsWritten}
use Rattle.sg_pool.specs.Shelves.{geometry_of}
use Rattle.sg_pool.proofs.shelf.Shelf.write_windows.Given as goal

abbrev pub invariant-windows : goal.invariant-windows
invariant-windows g l = record {
  later : (g.D.Disk.view l.fn.disk).faults ≤ (g.D.Disk.view l.disk).faults;
  quiet : (g.D.Disk.view l.disk).faults ≡ (g.D.Disk.view l.fn.disk).faults;
  kept : (g.D.Disk.view l.fn.disk).handed ≤ (g.D.Disk.view l.disk).handed;
  done : IsTrue g.D.Disk.told → AreBandsWritten (geometry_of l.fn.self) l.fn.self.wins l.fn.self.frames.windows l.fn.from l.w (g.D.Disk.view l.fn.disk).now (g.D.Disk.view l.disk).now;
  moments : IsTrue g.D.Disk.told → LeavesOnly (g.D.Disk.view l.fn.disk) (g.D.Disk.view l.disk) (IsTorn (g.D.Disk.view l.fn.disk).now (IsDirty (geometry_of l.fn.self) l.fn.self.wins l.fn.from l.fn.to));
}
