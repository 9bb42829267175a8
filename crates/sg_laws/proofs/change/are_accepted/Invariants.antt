use Rattle.std.proofs.Common.{ℕ, ◌<◌, slice_index_or}
use Rattle.sg_ops.specs.Table.{table_of}
use Rattle.sg_laws.specs.Change.{IsAccepted}
use Rattle.sg_laws.proofs.change.are_accepted.Given as goal

-- the changes before this one are accepted
abbrev pub invariant-loop-change : goal.invariant-loop-change
invariant-loop-change g l =
    (k : ℕ) (d : _) → k < l.change-index → IsAccepted (table_of (λ p. (goal.RecordOp-dyn g p).record_meaning p.1) (λ p. (goal.RangeOp-dyn g p).range_meaning p.1) l.ops) (slice_index_or l.changes k d)
