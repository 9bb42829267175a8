use Rattle.std.proofs.Common.{◌+◌, ◌*◌, ◌≤◌, take}
use Rattle.std.specs.List.{flat_map}
use Rattle.sg_base.specs.Overwritten.{Wrote}
use Rattle.sg_index.specs.Node.{spelled_entry}
use Rattle.sg_index.proofs.node.put_entries.Given as goal

abbrev pub invariant-entries : goal.invariant-entries
invariant-entries l = record {
  wrote : Wrote l.initial.into l.start (flat_map spelled_entry (take l.item-index l.items)) l.into l.at;
  few : l.at ≤ l.start + 130 * l.item-index;
}
