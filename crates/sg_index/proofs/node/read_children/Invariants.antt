use Rattle.std.proofs.Common.{◌≡◌, ◌-◌, [], length}
use Rattle.sg_index.specs.Node.{read_children}
use Rattle.sg_index.proofs.node.read_children.Given as goal

abbrev pub invariant-children : goal.invariant-children
invariant-children l = record {
  read : read_children l.children.items (l.count - l._i) l.rest ≡ read_children [] l.count l.bytes;
  count : length l.children.items ≡ l._i;
}
