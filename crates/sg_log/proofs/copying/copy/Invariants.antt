use Rattle.std.proofs.Common.{◌≡◌, ◌≤◌, ◌+◌, ◌-◌, IsTrue}
use Rattle.sg_disk.specs.Disk.{LeavesOnly}
use Rattle.sg_log.specs.Cut.{IsCopied, Spares}
use Rattle.sg_log.proofs.copying.copy.Given as goal

abbrev pub invariant-pieces : goal.invariant-pieces
invariant-pieces g l =
    (l.at ≤ l.count)
    × (IsTrue g.D.Disk.told → (l.from ≡ l.to → ⊥) → IsCopied l.from l.start l.to l.at (g.D.Disk.view l.fn.disk) (g.D.Disk.view l.disk))
    × (IsTrue g.D.Disk.told → (l.from ≡ l.to → ⊥) → LeavesOnly (g.D.Disk.view l.fn.disk) (g.D.Disk.view l.disk) (Spares l.to (g.D.Disk.view l.fn.disk).now))
    × ((g.D.Disk.view l.disk).faults ≡ (g.D.Disk.view l.fn.disk).faults)
    × ((g.D.Disk.view l.disk).handed ≤ (g.D.Disk.view l.fn.disk).handed + l.at)
    × ((g.D.Disk.view l.fn.disk).handed ≤ (g.D.Disk.view l.disk).handed)

abbrev pub decreases-pieces : goal.decreases-pieces
decreases-pieces g l = l.count - l.at
