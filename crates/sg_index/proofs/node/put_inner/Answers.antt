use Rattle.std.proofs.Common.{List, subst, ◌≤◌, length, arith}
use Rattle.sg_base.proofs.Overwriting.{wrote_on}
use Rattle.std.specs.List.{flat_map}
use Rattle.std.proofs.lemmas.List.{take_rest}
use Rattle.sg_base.specs.Overwritten.{Wrote}
use Rattle.sg_index.specs.declared.item.Item.{Item}
use Rattle.sg_index.specs.Node.{spelled_inner, spelled_separator}
use Rattle.sg_index.proofs.node.put_inner.Goals as goal

pub returns-clause-wrote : goal.returns-clause-wrote
unfolding spelled_inner
returns-clause-wrote c =
    let within : 0 ≤ length c.args.into.now = omega arith in
    let rest = take_rest c.args.items.now 1 in
    let separators = subst (λ (xs : List Item). Wrote c.put_children-at.new.into c.put_children-at.result (flat_map spelled_separator xs) c.put_separators.new.into c.put_separators.result) rest c.put_separators.ensures.wrote in
    wrote_on within (wrote_on within (wrote_on within c.put_u8-at.ensures c.put_u8-at-2.ensures) c.put_children-at.ensures.wrote) separators
