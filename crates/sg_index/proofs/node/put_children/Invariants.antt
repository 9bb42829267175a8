use Rattle.std.proofs.Common.{◌+◌, ◌*◌, ◌≤◌, take}
use Rattle.std.specs.List.{flat_map}
use Rattle.sg_base.specs.Overwritten.{Wrote}
use Rattle.sg_index.specs.Node.{spelled_child}
use Rattle.sg_index.proofs.node.put_children.Given as goal

abbrev pub invariant-children : goal.invariant-children
invariant-children l = record {
  wrote : Wrote l.initial.into l.start (flat_map spelled_child (take l.item-index l.items)) l.into l.at;
  few : l.at ≤ l.start + 4 * l.item-index;
}
