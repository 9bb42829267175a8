use Rattle.std.specs.Prelude.{◌≡◌, None, length}
use Rattle.sg_ops.specs.Table.{Table as Operations, table_of}
use Rattle.sg_run.specs.Run.{Run}
use Rattle.sg_store.specs.Ground.{Ground, IsLawful}
use Rattle.sg_store.specs.Engine.{View, KeepsBy, AsMeantBy}
use Rattle.sg_store.specs.Heeds.{Heeds}
use Rattle.sg_session.specs.Names.{all_live}
use Rattle.sg_session.specs.Seen.{session_core, Serves}
use Rattle.sg_session.specs.Shows.{Core, Shows}
use Rattle.sg_session.specs.Ending.{AreAborting}
use Rattle.sg_session.proofs.session.Session.abort_all.Given as goal

-- some have aborted
abbrev pub so_far : Operations → (before now : Core) → (g : Ground) → (v w : View g) → Type 0
so_far t before now g v w = (x : Run) → IsLawful t g → Shows t g v before x → AreAborting t g v x w now

pub record Since (Running Means Serving Heeding Done : Type 0) : Type 0 where
  pub running : Running
  pub means : Means
  pub serves : Serving
  pub heeds : Heeding
  pub done : Done

abbrev pub invariant-live : goal.invariant-live
invariant-live g l =
    Since (l.self.store.stop ≡ None) (KeepsBy (table_of (λ z. (goal.RecordOp-dyn g z).record_meaning z.1) (λ z. (goal.RangeOp-dyn g z).range_meaning z.1) l.ops) (g.E.Engine.view l.fn.self.store.engine) (g.E.Engine.view l.self.store.engine))
    (Serves (table_of (λ z. (goal.RecordOp-dyn g z).record_meaning z.1) (λ z. (goal.RangeOp-dyn g z).range_meaning z.1) l.ops) l.self)
    (Heeds l.fn.self.store.stop l.self.store.stop (g.E.Engine.view l.fn.self.store.engine) (g.E.Engine.view l.self.store.engine))
    (AsMeantBy (table_of (λ z. (goal.RecordOp-dyn g z).record_meaning z.1) (λ z. (goal.RangeOp-dyn g z).range_meaning z.1) l.ops) (g.E.Engine.view l.fn.self.store.engine) (g.E.Engine.view l.self.store.engine)
    (so_far (table_of (λ z. (goal.RecordOp-dyn g z).record_meaning z.1) (λ z. (goal.RangeOp-dyn g z).range_meaning z.1) l.ops) (session_core l.fn.self) (session_core l.self)))

abbrev pub decreases-live : goal.decreases-live
decreases-live g l = length (all_live l.self.names.all.items)
