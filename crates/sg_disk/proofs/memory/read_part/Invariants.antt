use Rattle.std.proofs.Common.{◌≡◌, ◌+◌, ◌<◌, ℕ, get_or}
use Rattle.sg_disk.specs.Memory.{bytes_of}
use Rattle.sg_disk.proofs.memory.read_part.Given as goal

abbrev pub invariant-loop-i : goal.invariant-loop-i
invariant-loop-i l = (k : ℕ) → k < l.i → get_or l.into k 0 ≡ bytes_of l.bytes (l.at + k)
