use Rattle.std.proofs.Common.{◌≡◌, ℕ, ◌+◌, ◌<◌, ◌≤◌, length, take, sum_by, slice_index_or}
use Rattle.sg_ops.specs.Table.{table_of}
use Rattle.sg_redo.specs.Units.{replayed_unit}
use Rattle.sg_redo.proofs.replaying.replay.Given as goal

-- the units before this one are replayed, and the others are as they were
abbrev pub invariant-units : goal.invariant-units
invariant-units g l = record {
  made : (k : ℕ) (d : _) → k < l.i → slice_index_or l.units k d ≡ replayed_unit (table_of (λ p. (goal.RecordOp-dyn g p).record_meaning p.1) (λ p. (goal.RangeOp-dyn g p).range_meaning p.1) l.ops) l.text l.places (slice_index_or l.fn.units k d);
  waiting : (k : ℕ) (d : _) → l.i ≤ k → k < length l.units → slice_index_or l.units k d ≡ slice_index_or l.fn.units k d;
  steps : l.steps ≡ l.fn.steps + sum_by (λ u. u.count) (take l.i l.fn.units);
}
