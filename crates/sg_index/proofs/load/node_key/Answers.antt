use Rattle.sg_index.specs.Tree.{node_key}
use Rattle.sg_index.proofs.load.node_key.Goals as goal

pub returns-clause-key : goal.returns-clause-key
unfolding node_key
returns-clause-key c = c.put_u32.ensures.written
