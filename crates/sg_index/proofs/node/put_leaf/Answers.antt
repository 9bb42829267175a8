use Rattle.std.proofs.Common.{◌≤◌, length, arith}
use Rattle.sg_base.proofs.Overwriting.{wrote_on}
use Rattle.sg_index.specs.Node.{spelled_leaf}
use Rattle.sg_index.proofs.node.put_leaf.Goals as goal

pub returns-clause-wrote : goal.returns-clause-wrote
unfolding spelled_leaf
returns-clause-wrote c =
    let within : 0 ≤ length c.args.into.now = omega arith in
    wrote_on within (wrote_on within c.put_u8-at.ensures c.put_u8-at-2.ensures) c.put_entries.ensures.wrote
