use Rattle.std.proofs.Common.{arith}
use Rattle.sg_index.proofs.Steps.{wrote_more}
use Rattle.sg_index.specs.Node.{spelled_entry}
use Rattle.sg_index.proofs.node.put_entries.Goals as goal

pub entries-preserved : goal.entries-preserved
entries-preserved c = record {
  wrote = wrote_more spelled_entry c.args.items.now c.entries.item-index c.item-item.result _ _ _ _ _ _ (omega (arith, c.requires)) c.entries-test.true c.item-item.is c.entries.invariant.wrote c.put_entry-at.ensures.wrote;
  few = omega (arith, c.put_entry-at.ensures.few, c.entries.invariant.few);
}
