use Rattle.std.proofs.Common.{◌+◌, ◌-◌, ◌∙◌, arith}
use Rattle.sg_index.proofs.Steps.{children_step}
use Rattle.sg_index.proofs.node.read_children.Goals as goal

pub children-preserved : goal.children-preserved
children-preserved c = record {
  read = children_step _ _ _ _ _ (c.args.count - (c.children._i + 1)) (c.args.count - c.children._i) (omega (arith, c.children-test.true)) c.push.ensures.items c.in_ok-child.ensures ∙ c.children.invariant.read;
  count = omega (arith, c.push.ensures.len, c.children.invariant.count);
}
