use Rattle.std.proofs.Common.{◌≡◌, ◌⊎◌, ◌↔◌, ℕ, length, take}
use Rattle.sg_ops.specs.Table.{table_of}
use Rattle.sg_segment.specs.Runs.{IsMarked}
use Rattle.sg_redo.specs.History.{IsCovered}
use Rattle.sg_redo.specs.Window.{on_byte, replayed, since_replayed, AllLie}
use Rattle.sg_redo.specs.Places.{window_records}
use Rattle.sg_redo.proofs.replaying.replay_window.Given as goal

-- the records at the places before this one are written over the window, and their bytes are marked
abbrev pub invariant-places : goal.invariant-places
invariant-places g l = record {
  written : l.window ≡ replayed (window_records (table_of (λ p. (goal.RecordOp-dyn g p).record_meaning p.1) (λ p. (goal.RangeOp-dyn g p).range_meaning p.1) l.ops) l.text (take l.k l.places)) l.initial.window;
  marked : (k : ℕ) → IsMarked l.dirty k ↔ (IsMarked l.initial.dirty k ⊎ IsCovered (on_byte k (window_records (table_of (λ p. (goal.RecordOp-dyn g p).record_meaning p.1) (λ p. (goal.RangeOp-dyn g p).range_meaning p.1) l.ops) l.text (take l.k l.places))));
  marks : length l.initial.dirty ≡ 32768 → length l.dirty ≡ 32768;
  since : l.since ≡ since_replayed (window_records (table_of (λ p. (goal.RecordOp-dyn g p).record_meaning p.1) (λ p. (goal.RangeOp-dyn g p).range_meaning p.1) l.ops) l.text (take l.k l.places)) l.initial.since;
  lie : AllLie 32768 (window_records (table_of (λ p. (goal.RecordOp-dyn g p).record_meaning p.1) (λ p. (goal.RangeOp-dyn g p).range_meaning p.1) l.ops) l.text (take l.k l.places));
}
