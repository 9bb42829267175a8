use Rattle.sg_index.proofs.Sharing.{as_settled}
use Rattle.sg_index.proofs.take.settle.Goals as goal

pub returns-then-len-most-clause-settled : goal.returns-then-len-most-clause-settled
returns-then-len-most-clause-settled g c =
    let put = rw c.as_slice-then-len-most.ensures.value at c.in_ok-write_node.ensures.put in
    let few = rw (c.len.ensures.value, c.most.ensures) at c.if-len-most.true in
    as_settled _ _ _ c.args.leaf c.args.both.now.items c.args.node.now.items c.args.at _ c.requires.within c.index-as_slice-at.result c.index-as_slice-at-2.result _ _ c.as_slice.ensures.value c.as_slice-2.ensures.value put c.in_ok-delete_node.ensures.gone few c.remove.ensures.items
