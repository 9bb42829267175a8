use Rattle.std.proofs.Common.{List, ℕ, sym, ap, ◌∙◌}
use Rattle.sg_index.proofs.Steps.{inner_none_1, inner_none_2, inner_none_3, inner_more, inner_some}
use Rattle.sg_index.specs.Node.{with_separators}
use Rattle.sg_index.proofs.node.read_inner.Goals as goal

pub returns-in_err-count : goal.returns-in_err-count
returns-in_err-count c = rw c.from_residual.ensures (inner_none_1 _ c.in_err-count.ensures.head)

pub returns-in_err-rest : goal.returns-in_err-rest
returns-in_err-rest c = rw c.from_residual-in_err-rest.ensures (inner_none_2 _ _ _ c.in_ok-count.ensures.head c.in_err-rest.ensures.read)

pub returns-in_err-rest-2 : goal.returns-in_err-rest-2
returns-in_err-rest-2 c =
    rw c.from_residual-in_err-rest-2.ensures (inner_none_3 _ _ _ _ _ c.in_ok-count.ensures.head c.in_ok-rest.ensures.read (c.in_err-rest-2.ensures ∙ ap (λ (xs : List ℕ). with_separators xs c.in_ok-rest.rest.now) c.as_slice.ensures.value))

pub returns-then-not-is_empty : goal.returns-then-not-is_empty
returns-then-not-is_empty c =
    inner_more _ _ _ _ _ c.in_ok-count.ensures.head c.in_ok-rest.ensures.read _ _ (c.in_ok-rest-2.ensures ∙ ap (λ (xs : List ℕ). with_separators xs c.in_ok-rest.rest.now) c.as_slice.ensures.value) (sym c.is_empty.ensures ∙ c.if-not-is_empty.true)

pub returns : goal.returns
returns c =
    inner_some _ _ _ _ _ c.in_ok-count.ensures.head c.in_ok-rest.ensures.read _ _ (c.in_ok-rest-2.ensures ∙ ap (λ (xs : List ℕ). with_separators xs c.in_ok-rest.rest.now) c.as_slice.ensures.value) (sym c.is_empty.ensures ∙ c.if-not-is_empty.false)
