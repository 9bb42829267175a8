use Rattle.std.proofs.Common.{◌≡◌, ◌≤◌, ◌++◌, length, take}
use Rattle.hex.specs.Hex.{encode_lower}
use Rattle.sg_words.specs.Waiting.{Passes}
use Rattle.sg_words.proofs.several.add_digits.Given as goal

-- the digits of the bytes so far
abbrev pub invariant-bytes : goal.invariant-bytes
invariant-bytes g l = record {
  within : l.count ≤ length l.waiting;
  so_far : Passes (g.K.Sink.taken l.fn.out) (take l.end l.fn.waiting ++ encode_lower (take l.byte-index l.bytes)) (g.K.Sink.taken l.out) (take l.count l.waiting);
  quiet : g.K.Sink.faults l.out ≡ g.K.Sink.faults l.fn.out;
}
