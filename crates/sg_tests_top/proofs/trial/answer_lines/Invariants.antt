use Rattle.sg_ops.specs.Table.{table_of}
use Rattle.sg_session.specs.Seen.{Serves}
use Rattle.sg_tests_top.proofs.trial.answer_lines.Given as goal

-- the session serves, so that each line and the end may be asked of it
abbrev pub invariant-loop-line : goal.invariant-loop-line
invariant-loop-line g l =
    (goal.iterator-loop-line g).can_next l.line-iterator ×
    ((goal.iterator-loop-line g).is_finite l.line-iterator ×
    Serves (table_of (λ z. (goal.RecordOp-dyn g z).record_meaning z.1) (λ z. (goal.RangeOp-dyn g z).range_meaning z.1) l.ops) l.session.inner)
