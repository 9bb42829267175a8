use Rattle.std.proofs.Common.{◌≡◌, false}
use Rattle.sg_action.specs.States.{State, Kept}
use Rattle.sg_ops.specs.Table.{table_of}
use Rattle.sg_actions.specs.Engine.{led}
use Rattle.sg_actions.specs.TakingOff.{IsOff, IsGoing}
use Rattle.sg_actions.specs.WentOff.{WentOff}
use Rattle.sg_actions.proofs.Counting.{HasLooked}
use Rattle.sg_actions.proofs.acts.Acts.resume.Given as goal

-- what is left can be taken off, to what was there at the begin
abbrev pub invariant-changes : goal.invariant-changes
invariant-changes g l = record {
  told : (g.E.Engine.view l.self.engine).Told → (g.E.Engine.view l.fn.self.engine).Told;
  looked : HasLooked (g.E.Engine.view l.fn.self.engine) (g.E.Engine.view l.self.engine) l.fn.self.breaks l.self.breaks;
  who : l.self.actor.txn.0 ≡ l.fn.self.actor.txn.0;
  begun : l.self.begun ≡ false;
  unfreed : l.self.unfreed ≡ l.fn.self.unfreed;
  goes : (start : State) → (g.E.Engine.means l.fn.self.engine) (table_of (λ p. (goal.RecordOp-dyn g p).record_meaning p.1) (λ p. (goal.RangeOp-dyn g p).range_meaning p.1) l.fn.ops) start → (g.E.Engine.view l.fn.self.engine).Told → (kept : Kept) (begin : State) → IsGoing (table_of (λ p. (goal.RecordOp-dyn g p).record_meaning p.1) (λ p. (goal.RangeOp-dyn g p).range_meaning p.1) l.fn.ops) kept begin (led start (g.E.Engine.view l.fn.self.engine)) l.fn.self.rows.items l.fn.self.actor l.fn.from
      → WentOff (g.E.Engine.recovers (table_of (λ p. (goal.RecordOp-dyn g p).record_meaning p.1) (λ p. (goal.RangeOp-dyn g p).range_meaning p.1) l.fn.ops)) (table_of (λ p. (goal.RecordOp-dyn g p).record_meaning p.1) (λ p. (goal.RangeOp-dyn g p).range_meaning p.1) l.fn.ops) l.fn.self.actor.txn.0 (led start (g.E.Engine.view l.fn.self.engine)) (led start (g.E.Engine.view l.self.engine));
  means : (start : State) → (g.E.Engine.means l.fn.self.engine) (table_of (λ p. (goal.RecordOp-dyn g p).record_meaning p.1) (λ p. (goal.RangeOp-dyn g p).range_meaning p.1) l.fn.ops) start → (g.E.Engine.means l.self.engine) (table_of (λ p. (goal.RecordOp-dyn g p).record_meaning p.1) (λ p. (goal.RangeOp-dyn g p).range_meaning p.1) l.fn.ops) start;
  off : (start : State) → (g.E.Engine.means l.fn.self.engine) (table_of (λ p. (goal.RecordOp-dyn g p).record_meaning p.1) (λ p. (goal.RangeOp-dyn g p).range_meaning p.1) l.fn.ops) start → (kept : Kept) (begin : State) → IsOff (table_of (λ p. (goal.RecordOp-dyn g p).record_meaning p.1) (λ p. (goal.RangeOp-dyn g p).range_meaning p.1) l.fn.ops) kept begin (led start (g.E.Engine.view l.fn.self.engine)) l.fn.self.maps l.fn.self.unfreed l.fn.self.rows.items l.fn.self.actor l.fn.from → (g.E.Engine.view l.self.engine).Told
      → IsOff (table_of (λ p. (goal.RecordOp-dyn g p).record_meaning p.1) (λ p. (goal.RangeOp-dyn g p).range_meaning p.1) l.fn.ops) kept begin (led start (g.E.Engine.view l.self.engine)) l.self.maps l.self.unfreed l.self.rows.items l.self.actor l.at;
  going : (start : State) → (g.E.Engine.means l.fn.self.engine) (table_of (λ p. (goal.RecordOp-dyn g p).record_meaning p.1) (λ p. (goal.RangeOp-dyn g p).range_meaning p.1) l.fn.ops) start → (kept : Kept) (begin : State) → IsGoing (table_of (λ p. (goal.RecordOp-dyn g p).record_meaning p.1) (λ p. (goal.RangeOp-dyn g p).range_meaning p.1) l.fn.ops) kept begin (led start (g.E.Engine.view l.fn.self.engine)) l.fn.self.rows.items l.fn.self.actor l.fn.from → (g.E.Engine.view l.self.engine).Told
      → IsGoing (table_of (λ p. (goal.RecordOp-dyn g p).record_meaning p.1) (λ p. (goal.RangeOp-dyn g p).range_meaning p.1) l.fn.ops) kept begin (led start (g.E.Engine.view l.self.engine)) l.self.rows.items l.self.actor l.at;
}

abbrev pub decreases-changes : goal.decreases-changes
decreases-changes g l = l.at
