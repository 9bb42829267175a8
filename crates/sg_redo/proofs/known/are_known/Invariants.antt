use Rattle.std.proofs.Common.{ℕ, ◌<◌, slice_index_or}
use Rattle.sg_ops.specs.Table.{table_of}
use Rattle.sg_redo.specs.Places.{change_at, IsKnown}
use Rattle.sg_redo.proofs.known.are_known.Given as goal

-- what the records before this one name is registered
abbrev pub invariant-places : goal.invariant-places
invariant-places g l =
    (k : ℕ) (d : _) → k < l.place-index → IsKnown (table_of (λ p. (goal.RecordOp-dyn g p).record_meaning p.1) (λ p. (goal.RangeOp-dyn g p).range_meaning p.1) l.ops) (change_at l.text (slice_index_or l.places k d).at)
