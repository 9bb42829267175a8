use Rattle.std.proofs.Common.{◌≤◌, length, arith}
use Rattle.sg_base.proofs.Overwriting.{wrote_on}
use Rattle.sg_index.proofs.node.put_entry.Goals as goal

pub returns-clause-wrote : goal.returns-clause-wrote
returns-clause-wrote c =
    let within : c.args.at ≤ length c.args.into.now = omega (arith, c.requires) in
    let three = wrote_on within (wrote_on within (wrote_on within c.put_u8-at.ensures c.put_u8-at-2.ensures) c.put_text-at.ensures) c.put_text.ensures in
    rw (← c.bytes-key.ensures.bytes, ← c.bytes-value.ensures.bytes) three
