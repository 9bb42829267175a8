use Rattle.std.proofs.Common.{sym, ◌∙◌}
use Rattle.sg_index.proofs.Looking.{header_none_1, header_none_2, header_none_3, header_low, header_high, header_more, header_some}
use Rattle.sg_index.proofs.header.decode_header.Goals as goal
use Rattle.sg_index.proofs.header.decode_header.Goals.{then-height-lt1-via-then-height-lt1, then-height-lt1-via-else-height-lt1+then-height-gt-MOST_LEVELS}

pub returns-in_err-root-clause-read : goal.returns-in_err-root-clause-read
returns-in_err-root-clause-read c = rw c.from_residual.ensures (header_none_1 _ c.in_err-root.ensures)

pub returns-in_err-next-clause-read : goal.returns-in_err-next-clause-read
returns-in_err-next-clause-read c = rw c.from_residual-in_err-next.ensures (header_none_2 _ _ _ c.in_ok-root.ensures c.in_err-next.ensures)

pub returns-in_err-height-clause-read : goal.returns-in_err-height-clause-read
returns-in_err-height-clause-read c = rw c.from_residual-in_err-height.ensures (header_none_3 _ _ _ c.in_ok-root.ensures _ _ c.in_ok-next.ensures c.in_err-height.ensures)

pub returns-then-height-lt1-clause-read : goal.returns-then-height-lt1-clause-read
returns-then-height-lt1-clause-read c =
    elim c.then-height-lt1.branch [
      | then-height-lt1-via-then-height-lt1 w ↦ header_low _ _ _ c.in_ok-root.ensures _ _ c.in_ok-next.ensures _ _ c.in_ok-height.ensures w.if-height-lt1.true
      | then-height-lt1-via-else-height-lt1+then-height-gt-MOST_LEVELS w ↦ header_high _ _ _ c.in_ok-root.ensures _ _ c.in_ok-next.ensures _ _ c.in_ok-height.ensures w.if-height-gt-MOST_LEVELS.true
    ]

pub returns-then-not-is_empty-clause-read : goal.returns-then-not-is_empty-clause-read
returns-then-not-is_empty-clause-read c = header_more _ _ _ c.in_ok-root.ensures _ _ c.in_ok-next.ensures _ _ c.in_ok-height.ensures (sym c.is_empty.ensures ∙ c.if-not-is_empty.true)

pub returns-clause-read : goal.returns-clause-read
returns-clause-read c =
    header_some _ _ _ c.in_ok-root.ensures _ _ c.in_ok-next.ensures _ _ c.in_ok-height.ensures c.if-height-lt1.false c.if-height-gt-MOST_LEVELS.false (sym c.is_empty.ensures ∙ c.if-not-is_empty.false)
