use Rattle.std.proofs.Common.{◌≡◌, ◌+◌, drop, length}
use Rattle.sg_index.specs.Node.{read_branches, with_separators}
use Rattle.sg_index.proofs.node.read_branches.Given as goal

abbrev pub invariant-branches : goal.invariant-branches
invariant-branches l = record {
  read : read_branches l.node.items (drop l.child-index l.others) l.rest ≡ with_separators l.children l.bytes;
  count : length l.node.items ≡ l.child-index + 1;
}
