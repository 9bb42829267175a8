use Rattle.sg_index.proofs.Steps.{head_none_1, head_none_2, head_other, head_many, head_some}
use Rattle.sg_index.proofs.node.read_head.Goals.{then-first-tag-via-then-first-tag, then-first-tag-via-else-first-tag+then-count-gt-MOST_COUNT}
use Rattle.sg_index.proofs.node.read_head.Goals as goal

pub returns-in_err-first-clause-head : goal.returns-in_err-first-clause-head
returns-in_err-first-clause-head c = rw c.from_residual.ensures (head_none_1 _ _ c.in_err-first.ensures)

pub returns-in_err-count-clause-head : goal.returns-in_err-count-clause-head
returns-in_err-count-clause-head c = rw c.from_residual-in_err-count.ensures (head_none_2 _ _ _ _ c.in_ok-first.ensures c.in_err-count.ensures)

pub returns-then-first-tag-clause-head : goal.returns-then-first-tag-clause-head
returns-then-first-tag-clause-head c =
    elim c.then-first-tag.branch [
      | then-first-tag-via-then-first-tag w ↦ head_other _ _ _ _ c.in_ok-first.ensures _ _ c.in_ok-count.ensures w.if-first-tag.true
      | then-first-tag-via-else-first-tag+then-count-gt-MOST_COUNT w ↦ head_many _ _ _ _ c.in_ok-first.ensures _ _ c.in_ok-count.ensures w.if-count-gt-MOST_COUNT.true
    ]

pub returns-clause-head : goal.returns-clause-head
returns-clause-head c = head_some _ _ _ _ c.in_ok-first.ensures _ _ c.in_ok-count.ensures c.if-first-tag.false c.if-count-gt-MOST_COUNT.false
