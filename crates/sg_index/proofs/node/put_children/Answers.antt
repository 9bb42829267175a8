use Rattle.std.proofs.Common.{arith}
use Rattle.sg_index.proofs.Steps.{wrote_more}
use Rattle.sg_index.specs.Node.{spelled_child}
use Rattle.sg_index.proofs.node.put_children.Goals as goal

pub children-preserved : goal.children-preserved
children-preserved c = record {
  wrote = wrote_more spelled_child c.args.items.now c.children.item-index c.item-item.result _ _ _ _ _ _ (omega (arith, c.requires)) c.children-test.true c.item-item.is c.children.invariant.wrote c.put_u32-at.ensures;
  few = omega (arith, c.put_u32-at.ensures.place, c.children.invariant.few);
}
