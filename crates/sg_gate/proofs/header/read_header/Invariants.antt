use Rattle.std.proofs.Common.{◌≡◌, ◌<◌, ℕ, take}
use Rattle.sg_disk.specs.Memory.{bytes_of}
use Rattle.sg_gate.specs.Batch.{numbers_from, IsFit}
use Rattle.sg_gate.proofs.header.read_header.Given as goal

abbrev pub invariant-numbers : goal.invariant-numbers
invariant-numbers l = record {
  numbers : numbers_from (bytes_of l.text) 4 l.k ≡ take l.k l.into;
  fit : (j : ℕ) → j < l.k → IsFit l.pages (bytes_of l.text) 0 j;
}
