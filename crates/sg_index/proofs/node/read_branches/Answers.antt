use Rattle.std.proofs.Common.{refl, ◌∙◌, arith}
use Rattle.sg_index.proofs.Steps.{branches_step}
use Rattle.sg_index.proofs.node.read_branches.Goals as goal

pub branches-preserved : goal.branches-preserved
branches-preserved c = record {
  read = branches_step _ _ _ c.branches.child-index _ _ c.branches-test.true c.in_ok-rest.ensures.read ∙ c.branches.invariant.read;
  count = omega (arith, c.in_ok-rest.ensures.count refl, c.branches.invariant.count);
}
