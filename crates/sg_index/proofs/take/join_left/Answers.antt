use Rattle.sg_index.proofs.Sharing.{joined_few}
use Rattle.sg_index.proofs.take.join_left.Goals as goal

pub settle-requires-clause-few : goal.settle-requires-clause-few
settle-requires-clause-few g c = joined_few _ _ _ _ _ c.in_ok-left.ensures.size c.requires.few c.join.ensures
