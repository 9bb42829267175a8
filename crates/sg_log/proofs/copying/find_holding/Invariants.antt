use Rattle.std.proofs.Common.{◌≡◌, ◌≤◌, ◌+◌, ◌-◌, List, IsTrue}
use Rattle.sg_record.specs.Records.{Record}
use Rattle.sg_log.specs.Frames.{Frames, gate_after}
use Rattle.sg_log.specs.Reads.{OnlyReads}
use Rattle.sg_log.proofs.Cutting.{IsSought}
use Rattle.sg_log.proofs.copying.find_holding.Given as goal

-- the frames that were passed end at or before the point, and nothing was written
abbrev pub invariant-frames : goal.invariant-frames
invariant-frames g l = record {
  before : l.base + l.at ≤ l.point;
  sought : (frames : List (List Record)) → IsTrue g.D.Disk.told → Frames ((g.D.Disk.view l.fn.disk).now l.area).seen 0 frames → l.gate ≡ l.base + gate_after 0 frames → IsSought l.base l.point frames l.at;
  reads : OnlyReads g.D.Disk.told (g.D.Disk.view l.fn.disk) (g.D.Disk.view l.disk);
  quiet : (g.D.Disk.view l.disk).faults ≡ (g.D.Disk.view l.fn.disk).faults;
}

abbrev pub decreases-frames : goal.decreases-frames
decreases-frames g l = l.gate - (l.base + l.at)
