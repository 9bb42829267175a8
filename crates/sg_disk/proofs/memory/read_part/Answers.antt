use Rattle.std.proofs.Common.{◌∙◌, sym, ap, ℕ, arith}
use Rattle.sg_disk.specs.Disk.{window}
use Rattle.sg_disk.specs.Memory.{bytes_of}
use Rattle.sg_disk.proofs.Parts.{window_is}
use Rattle.sg_disk.proofs.memory.read_part.Goals as goal

pub returns : goal.returns
returns c =
    sym (window_is (bytes_of c.args.bytes.now) c.args.at c.loop-i.into (λ k lt. sym (c.loop-i.invariant k (omega arith))))
    ∙ ap (λ (n : ℕ). window (bytes_of c.args.bytes.now) c.args.at n) c.loop-i.auto.into
