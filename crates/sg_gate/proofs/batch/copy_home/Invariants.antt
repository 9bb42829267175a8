use Rattle.std.proofs.Common.{◌≡◌, ◌≤◌, ◌<◌, ◌+◌, ◌*◌, ℕ, IsTrue, length, min}
use Rattle.sg_base.specs.declared.area.Area.TheVariants.{Home}
use Rattle.sg_disk.specs.Disk.{FULL}
use Rattle.sg_gate.specs.Layout.{PAGE}
use Rattle.sg_gate.specs.Batch.{IsBatch, IsOpen, IsSettled}
use Rattle.sg_gate.proofs.Copies.{IsCopied}
use Rattle.sg_gate.proofs.Copying.{SoFar}
use Rattle.sg_gate.proofs.batch.copy_home.Given as goal

abbrev pub invariant-pages : goal.invariant-pages
invariant-pages g l = record {
  quiet : (g.D.Disk.view l.disk).faults ≡ (g.D.Disk.view l.fn.disk).faults;
  later : (g.D.Disk.view l.fn.disk).faults ≤ (g.D.Disk.view l.disk).faults;
  calls : (0 < l.k → (g.D.Disk.view l.disk).calls ≡ min ((g.D.Disk.view l.fn.disk).calls + 2 * l.k) FULL) × (l.k ≡ 0 → (g.D.Disk.view l.disk).calls ≡ (g.D.Disk.view l.fn.disk).calls);
  handed : (0 < l.k → (g.D.Disk.view l.disk).handed ≡ min ((g.D.Disk.view l.fn.disk).handed + PAGE * l.k) FULL) × (l.k ≡ 0 → (g.D.Disk.view l.disk).handed ≡ (g.D.Disk.view l.fn.disk).handed);
  kept : (g.D.Disk.view l.fn.disk).handed ≤ (g.D.Disk.view l.disk).handed;
  copied : (short : length l.numbers ≤ 32) → IsTrue g.D.Disk.told → IsCopied (g.D.Disk.view l.fn.disk) l.numbers short l.k (g.D.Disk.view l.disk).now;
  moments : (pages : ℕ) → IsTrue g.D.Disk.told → (opened : IsOpen ((g.D.Disk.view l.fn.disk).now Home) l.numbers) → (settled : IsSettled ((g.D.Disk.view l.fn.disk).now Home)) → (batch : IsBatch pages l.numbers)
      → SoFar (g.D.Disk.view l.fn.disk) l.numbers pages opened settled batch (g.D.Disk.view l.disk);
}
