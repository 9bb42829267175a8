use Rattle.std.proofs.Common.{sym, ◌∙◌}
use Rattle.sg_index.proofs.Steps.{leaf_none_1, leaf_none_2, leaf_more, leaf_some}
use Rattle.sg_index.proofs.node.read_leaf.Goals as goal

pub returns-in_err-count : goal.returns-in_err-count
returns-in_err-count c = rw c.from_residual.ensures (leaf_none_1 _ c.in_err-count.ensures.head)

pub returns-in_err-rest : goal.returns-in_err-rest
returns-in_err-rest c = rw c.from_residual-in_err-rest.ensures (leaf_none_2 _ _ _ c.in_ok-count.ensures.head c.in_err-rest.ensures)

pub returns-then-not-is_empty : goal.returns-then-not-is_empty
returns-then-not-is_empty c = leaf_more _ _ _ _ _ c.in_ok-count.ensures.head c.in_ok-rest.ensures (sym c.is_empty.ensures ∙ c.if-not-is_empty.true)

pub returns : goal.returns
returns c = leaf_some _ _ _ _ _ c.in_ok-count.ensures.head c.in_ok-rest.ensures (sym c.is_empty.ensures ∙ c.if-not-is_empty.false)
