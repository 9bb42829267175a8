use Rattle.std.proofs.Common.{◌≡◌, length, take}
use Rattle.byteorder.specs.Endian.{little_number}
use Rattle.sg_disk.specs.Disk.{window}
use Rattle.sg_disk.specs.Memory.{bytes_of}
use Rattle.sg_gate.specs.Batch.{numbers_from}
use Rattle.sg_gate.proofs.header.write_header.Given as goal

abbrev pub invariant-numbers : goal.invariant-numbers
invariant-numbers l = record {
  count : little_number 4 (window (bytes_of l.text) 0 4) ≡ length l.numbers;
  numbers : numbers_from (bytes_of l.text) 4 l.k ≡ take l.k l.numbers;
}
