use Rattle.std.proofs.Common.{refl, ◌+◌, ◌-◌, ◌∙◌, arith}
use Rattle.sg_index.proofs.Steps.{entries_step}
use Rattle.sg_index.proofs.node.read_entries.Goals as goal

pub entries-preserved : goal.entries-preserved
entries-preserved c = record {
  read = entries_step _ _ _ _ (c.args.count - (c.entries._i + 1)) (c.args.count - c.entries._i) (omega (arith, c.entries-test.true)) c.in_ok-rest.ensures.read ∙ c.entries.invariant.read;
  few = omega (arith, c.in_ok-rest.ensures.count refl, c.entries.invariant.few);
}
