use Rattle.std.proofs.Common.{inr, ◌+◌, sym, ◌∙◌, ◌<◌, arith, length}
use Rattle.std.proofs.lemmas.Result.{err_from_is_err_and}
use Rattle.std.proofs.Math.Nat.{le_trans}
use Rattle.sg_index.proofs.Faults.{risen_after, fault_weaker, failed_weaker}
use Rattle.sg_index.proofs.Seeking.{leaf_some, leaf_none, as_leaf, says_below, broken_by, answers_here, answers_last, answers_second}
use Rattle.sg_index.proofs.seek.+next_in.Goals as goal
use Rattle.sg_index.proofs.seek.+next_in.Goals.{then-is_some-via-then-is_some, then-is_some-via-else-is_some+then-at-items-2}

pub returns-then-at-items-clause-next : goal.returns-then-at-items-clause-next
returns-then-at-items-clause-next g t c = λ key items marks numbers there enough h rises.
    let leaf = as_leaf _ _ _ _ _ c.as_slice-items.ensures.value c.in_ok-node.ensures.read c.if-level-eq0.true key items marks numbers there h in
    leaf_some key _ marks numbers leaf _ _ _ c.place_from-at.ensures.within c.place_from-at.ensures.before c.place_from-at.ensures.at _ c.if-at-items.true c.index-items-at.is

pub returns-then-level-eq0-clause-next : goal.returns-then-level-eq0-clause-next
returns-then-level-eq0-clause-next g t c = λ key items marks numbers there enough h rises.
    let leaf = as_leaf _ _ _ _ _ c.as_slice-items.ensures.value c.in_ok-node.ensures.read c.if-level-eq0.true key items marks numbers there h in
    leaf_none key _ marks numbers leaf _ _ _ c.place_from-at.ensures.within c.place_from-at.ensures.before c.place_from-at.ensures.at c.if-at-items.false

pub returns-in_err-found-clause-next : goal.returns-in_err-found-clause-next
returns-in_err-found-clause-next g t c = λ key items marks numbers there enough h rises.
    let p = err_from_is_err_and c.from_residual-in_err-found.result c.from_residual-in_err-found.ensures.1 in
    rw (p.1, p.2)
    (says_below _ _ _ _ _ c.as_slice-items.ensures.value c.in_ok-node.ensures.read c.if-level-eq0.false _ c.branch_for-at.ensures.within c.index-items-at-2.result _ c.in_ok-node.ensures.kept _ c.fewest-least.ensures _
    c.in_err-found.ensures.next key items marks numbers there h rises)

pub returns-in_err-found-clause-failed : goal.returns-in_err-found-clause-failed
returns-in_err-found-clause-failed g t c =
    let p = err_from_is_err_and c.from_residual-in_err-found.result c.from_residual-in_err-found.ensures.1 in
    rw (p.1, p.2)
    (fault_weaker c.in_err-found.field-0.0 {C = ⊥} (risen_after _ _ _ c.in_ok-node.ensures.later) (λ why. inr (broken_by _ _ _ _ _ c.as_slice-items.ensures.value c.in_ok-node.ensures.read c.if-level-eq0.false _ c.branch_for-at.ensures.within c.index-items-at-2.result _ c.in_ok-node.ensures.kept _ c.fewest-least.ensures why)) (λ no. no) c.in_err-found.ensures.failed)

pub returns-then-is_some-clause-next : goal.returns-then-is_some-clause-next
returns-then-is_some-clause-next g t c = λ key items marks numbers there enough h rises.
    elim c.then-is_some.branch [
      | then-is_some-via-then-is_some w ↦
          answers_here _ _ _ _ _ c.as_slice-items.ensures.value c.in_ok-node.ensures.read c.if-level-eq0.false _ c.branch_for-at.ensures.within c.index-items-at-2.result _ c.in_ok-node.ensures.kept _ c.fewest-least.ensures _ c.args.strict c.branch_for-at.ensures.left c.branch_for-at.ensures.right
          c.in_ok-found.found (sym c.is_some.ensures ∙ w.if-is_some.true) c.in_ok-found.ensures.next key items marks numbers there h rises
      | then-is_some-via-else-is_some+then-at-items-2 w ↦
          answers_last _ _ _ _ _ c.as_slice-items.ensures.value c.in_ok-node.ensures.read c.if-level-eq0.false _ c.branch_for-at.ensures.within c.index-items-at-2.result _ c.in_ok-node.ensures.kept _ c.fewest-least.ensures _ c.args.strict c.branch_for-at.ensures.left c.branch_for-at.ensures.right
          c.in_ok-found.found (sym c.is_some.ensures ∙ w.if-is_some.false) w.if-at-items-2.true c.in_ok-found.ensures.next key items marks numbers there h rises
    ]

pub returns-clause-next : goal.returns-clause-next
returns-clause-next g t c = λ key items marks numbers there enough h rises.
    let more : c.branch_for-at.result + 1 < length c.as_slice-items.result.now = omega (arith, c.branch_for-at.ensures.within, c.if-at-items-2.false) in
    answers_second _ _ _ _ _ c.as_slice-items.ensures.value c.in_ok-node.ensures.read c.if-level-eq0.false _ c.branch_for-at.ensures.within c.index-items-at-2.result _ c.in_ok-node.ensures.kept _ c.fewest-least.ensures _ c.args.strict c.branch_for-at.ensures.left c.branch_for-at.ensures.right
    c.next_in-2.result c.in_ok-found.found c.index-items-at-3.result (sym c.is_some.ensures ∙ c.if-is_some.false) more c.in_ok-found.ensures.next _ (c.in_ok-found.ensures.kept ∙ c.in_ok-node.ensures.kept) c.next_in-2.ensures.next key items marks numbers there h rises

pub returns-clause-failed : goal.returns-clause-failed
returns-clause-failed g t c =
    let more : c.branch_for-at.result + 1 < length c.as_slice-items.result.now = omega (arith, c.branch_for-at.ensures.within, c.if-at-items-2.false) in
    failed_weaker c.next_in-2.result (risen_after _ _ _ (le_trans c.in_ok-node.ensures.later c.in_ok-found.ensures.later))
    (λ why. inr (broken_by _ _ _ _ _ c.as_slice-items.ensures.value c.in_ok-node.ensures.read c.if-level-eq0.false _ more c.index-items-at-3.result _ (c.in_ok-found.ensures.kept ∙ c.in_ok-node.ensures.kept) _ c.fewest-least.ensures why)) (λ no. no) c.next_in-2.ensures.failed
