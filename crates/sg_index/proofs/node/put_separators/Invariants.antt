use Rattle.std.proofs.Common.{◌+◌, ◌*◌, ◌≤◌, take}
use Rattle.std.specs.List.{flat_map}
use Rattle.sg_base.specs.Overwritten.{Wrote}
use Rattle.sg_index.specs.Node.{spelled_separator}
use Rattle.sg_index.proofs.node.put_separators.Given as goal

abbrev pub invariant-separators : goal.invariant-separators
invariant-separators l = record {
  wrote : Wrote l.initial.into l.start (flat_map spelled_separator (take l.item-index l.items)) l.into l.at;
  few : l.at ≤ l.start + 130 * l.item-index;
}
