use Rattle.std.proofs.Common.{◌≡◌, ◌≤◌, ◌+◌, ◌-◌, IsTrue}
use Rattle.sg_disk.specs.Disk.{LeavesOnly}
use Rattle.sg_base.specs.declared.page.TheConstants.{BAND_SIZE}
use Rattle.sg_window.proofs.Counting.{HasCalled}
use Rattle.sg_window.specs.Runs.{IsMarkedAt, IsTorn, AreWritten}
use Rattle.sg_window.proofs.runs.write_runs.Given as goal

abbrev pub invariant-runs : goal.invariant-runs
invariant-runs g l = record {
  within : l.from ≤ BAND_SIZE;
  later : (g.D.Disk.view l.fn.disk).faults ≤ (g.D.Disk.view l.disk).faults;
  quiet : (g.D.Disk.view l.disk).faults ≡ (g.D.Disk.view l.fn.disk).faults;
  kept : (g.D.Disk.view l.fn.disk).handed ≤ (g.D.Disk.view l.disk).handed;
  handed : (g.D.Disk.view l.disk).handed ≤ (g.D.Disk.view l.fn.disk).handed + l.from;
  called : HasCalled l.dirty l.from (g.D.Disk.view l.fn.disk).calls (g.D.Disk.view l.disk).calls;
  moments : IsTrue g.D.Disk.told → LeavesOnly (g.D.Disk.view l.fn.disk) (g.D.Disk.view l.disk) (IsTorn (g.D.Disk.view l.fn.disk).now (IsMarkedAt l.base l.dirty BAND_SIZE))
      × AreWritten (g.D.Disk.view l.fn.disk).now (g.D.Disk.view l.disk).now l.base l.window l.dirty l.from;
}

abbrev pub decreases-runs : goal.decreases-runs
decreases-runs g l = BAND_SIZE - l.from
