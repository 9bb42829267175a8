use Rattle.std.proofs.Common.{◌≡◌, take}
use Rattle.sg_linear.specs.Fnv.{fnv_1a}
use Rattle.sg_linear.proofs.fnv.fnv_1a.Given as goal

abbrev pub invariant-loop-byte : goal.invariant-loop-byte
invariant-loop-byte l = l.hash ≡ fnv_1a (take l.byte-index l.text)
