use Rattle.std.proofs.Common.{arith}
use Rattle.sg_index.proofs.Steps.{wrote_more}
use Rattle.sg_index.specs.Node.{spelled_separator}
use Rattle.sg_index.proofs.node.put_separators.Goals as goal

pub separators-preserved : goal.separators-preserved
separators-preserved c = record {
  wrote = wrote_more spelled_separator c.args.items.now c.separators.item-index c.item-item.result _ _ _ _ _ _ (omega (arith, c.requires)) c.separators-test.true c.item-item.is c.separators.invariant.wrote c.put_separator-at.ensures.wrote;
  few = omega (arith, c.put_separator-at.ensures.few, c.separators.invariant.few);
}
