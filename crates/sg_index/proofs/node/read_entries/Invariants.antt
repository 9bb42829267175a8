use Rattle.std.proofs.Common.{◌≡◌, ◌-◌, ◌≤◌, [], length}
use Rattle.sg_index.specs.Node.{read_entries}
use Rattle.sg_index.proofs.node.read_entries.Given as goal

abbrev pub invariant-entries : goal.invariant-entries
invariant-entries l = record {
  read : read_entries l.node.items (l.count - l._i) l.rest ≡ read_entries [] l.count l.bytes;
  few : length l.node.items ≤ l._i;
}
