use Rattle.std.proofs.Common.{◌∙◌, length}
use Rattle.sg_index.proofs.Halves.{left_can, right_can, has_two}
use Rattle.sg_index.proofs.store.write_halves.Goals as goal

pub write_node-requires-clause-size : goal.write_node-requires-clause-size
write_node-requires-clause-size g c = left_can c.args.leaf c.args.node.now.items c.requires.many c.requires.few _ (c.as_slice.ensures.value ∙ c.split-key.ensures.left)

pub write_node-requires-2-clause-size : goal.write_node-requires-2-clause-size
write_node-requires-2-clause-size g c = right_can c.args.leaf c.args.node.now.items c.requires.many c.requires.few _ (c.as_slice-2.ensures.value ∙ c.split-key.ensures.right)

pub split-key-requires : goal.split-key-requires
split-key-requires g c = has_two c.args.leaf (length c.args.node.now.items) c.requires.many
