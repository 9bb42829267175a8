use Rattle.std.proofs.Common.{◌≡◌, ◌<◌, ◌≤◌, ℕ, length}
use Rattle.sg_disk.specs.Memory.{bytes_of}
use Rattle.sg_disk.proofs.crash.spoil.Given as goal

abbrev pub invariant-loop-i : goal.invariant-loop-i
invariant-loop-i l = record { outside : (i : ℕ) → (l.from ≤ i → i < l.to → ⊥) → bytes_of l.bytes.items i ≡ bytes_of l.fn.bytes.items i; size : l.end ≤ length l.bytes.items; within : l.end ≤ l.to }
