use Rattle.std.proofs.Common.{◌≡◌, ℕ, ◌<◌, ◌≤◌, length, slice_index_or}
use Rattle.sg_ops.specs.Table.{table_of}
use Rattle.sg_laws.specs.Change.{contents_of, redone}
use Rattle.sg_laws.proofs.change.redo_in_turn.Given as goal

-- the changes before this one are made, and the others are as they were
abbrev pub invariant-loop-i : goal.invariant-loop-i
invariant-loop-i g l = record {
  made : (k : ℕ) (d : _) → k < l.i → contents_of (slice_index_or l.changes k d) ≡ redone (table_of (λ p. (goal.RecordOp-dyn g p).record_meaning p.1) (λ p. (goal.RangeOp-dyn g p).range_meaning p.1) l.ops) (contents_of (slice_index_or l.fn.changes k d));
  waiting : (k : ℕ) (d : _) → l.i ≤ k → k < length l.changes → slice_index_or l.changes k d ≡ slice_index_or l.fn.changes k d;
}
