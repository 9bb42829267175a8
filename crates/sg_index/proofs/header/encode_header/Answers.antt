use Rattle.std.proofs.Common.{◌≤◌, ℕ, length, replicate, arith}
use Rattle.sg_base.proofs.Overwriting.{wrote_on, wrote_front}
use Rattle.sg_index.specs.Index.{spelled_header}
use Rattle.sg_index.proofs.header.encode_header.Goals as goal

pub returns-clause-spelled : goal.returns-clause-spelled
unfolding spelled_header
returns-clause-spelled c =
    let within : 0 ≤ length (replicate {A = ℕ} 9 0) = omega arith in
    wrote_front (wrote_on within (wrote_on within c.put_u32-at.ensures c.put_u32-at-2.ensures) c.put_u8.ensures)
