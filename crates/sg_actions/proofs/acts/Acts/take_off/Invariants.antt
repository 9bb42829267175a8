use Rattle.std.proofs.Common.{◌≡◌, false, ℕ}
use Rattle.sg_alloc.specs.Flags.{free_of}
use Rattle.sg_action.specs.States.{State}
use Rattle.sg_ops.specs.Table.{table_of}
use Rattle.sg_actions.specs.Engine.{led}
use Rattle.sg_actions.specs.Offed.{CanTakeOff, kept_in}
use Rattle.sg_actions.specs.Steps.{begin_of}
use Rattle.sg_actions.specs.TakingOff.{IsOff}
use Rattle.sg_actions.specs.WentOff.{WentOff}
use Rattle.sg_actions.proofs.Counting.{HasLooked}
use Rattle.sg_actions.proofs.acts.Acts.take_off.Given as goal

-- what is left can be taken off, to what was there at the begin
abbrev pub invariant-changes : goal.invariant-changes
invariant-changes g l = record {
  told : (g.E.Engine.view l.self.engine).Told → (g.E.Engine.view l.fn.self.engine).Told;
  means : (from : State) → (g.E.Engine.means l.fn.self.engine) (table_of (λ p. (goal.RecordOp-dyn g p).record_meaning p.1) (λ p. (goal.RangeOp-dyn g p).range_meaning p.1) l.fn.ops) from → (g.E.Engine.means l.self.engine) (table_of (λ p. (goal.RecordOp-dyn g p).record_meaning p.1) (λ p. (goal.RangeOp-dyn g p).range_meaning p.1) l.fn.ops) from;
  looked : HasLooked (g.E.Engine.view l.fn.self.engine) (g.E.Engine.view l.self.engine) l.fn.self.breaks l.self.breaks;
  goes : (limits : State → ℕ → ℕ) (from : State) → (g.E.Engine.means l.fn.self.engine) (table_of (λ p. (goal.RecordOp-dyn g p).record_meaning p.1) (λ p. (goal.RangeOp-dyn g p).range_meaning p.1) l.fn.ops) from → (g.E.Engine.view l.fn.self.engine).Told → CanTakeOff (table_of (λ p. (goal.RecordOp-dyn g p).record_meaning p.1) (λ p. (goal.RangeOp-dyn g p).range_meaning p.1) l.fn.ops) limits (led from (g.E.Engine.view l.fn.self.engine)) l.fn.self.maps l.fn.self.rows.items l.fn.self.actor
      → WentOff (g.E.Engine.recovers (table_of (λ p. (goal.RecordOp-dyn g p).record_meaning p.1) (λ p. (goal.RangeOp-dyn g p).range_meaning p.1) l.fn.ops)) (table_of (λ p. (goal.RecordOp-dyn g p).record_meaning p.1) (λ p. (goal.RangeOp-dyn g p).range_meaning p.1) l.fn.ops) l.fn.self.actor.txn.0 (led from (g.E.Engine.view l.fn.self.engine)) (led from (g.E.Engine.view l.self.engine));
  who : l.self.actor.txn ≡ l.fn.self.actor.txn;
  begun : l.self.begun ≡ false;
  whole : free_of l.self.unfreed.pages ≡ 0;
  bands : free_of l.self.unfreed.bands ≡ 0;
  off : (limits : State → ℕ → ℕ) (from : State) → (g.E.Engine.means l.fn.self.engine) (table_of (λ p. (goal.RecordOp-dyn g p).record_meaning p.1) (λ p. (goal.RangeOp-dyn g p).range_meaning p.1) l.fn.ops) from → (g.E.Engine.view l.fn.self.engine).Told → CanTakeOff (table_of (λ p. (goal.RecordOp-dyn g p).record_meaning p.1) (λ p. (goal.RangeOp-dyn g p).range_meaning p.1) l.fn.ops) limits (led from (g.E.Engine.view l.fn.self.engine)) l.fn.self.maps l.fn.self.rows.items l.fn.self.actor → (g.E.Engine.view l.self.engine).Told
      → IsOff (table_of (λ p. (goal.RecordOp-dyn g p).record_meaning p.1) (λ p. (goal.RangeOp-dyn g p).range_meaning p.1) l.fn.ops) (kept_in limits (table_of (λ p. (goal.RecordOp-dyn g p).record_meaning p.1) (λ p. (goal.RangeOp-dyn g p).range_meaning p.1) l.fn.ops) (led from (g.E.Engine.view l.fn.self.engine)) l.fn.self.maps) (begin_of (table_of (λ p. (goal.RecordOp-dyn g p).record_meaning p.1) (λ p. (goal.RangeOp-dyn g p).range_meaning p.1) l.fn.ops) from (g.E.Engine.view l.fn.self.engine).steps) (led from (g.E.Engine.view l.self.engine)) l.self.maps l.self.unfreed l.self.rows.items l.self.actor l.at;
}

abbrev pub decreases-changes : goal.decreases-changes
decreases-changes g l = l.at
