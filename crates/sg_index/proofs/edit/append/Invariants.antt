use Rattle.std.proofs.Common.{◌≡◌, ◌++◌, take}
use Rattle.sg_index.proofs.edit.append.Given as goal

abbrev pub invariant-items : goal.invariant-items
invariant-items l = l.node.items ≡ l.fn.node.items ++ take l.item-index l.items
