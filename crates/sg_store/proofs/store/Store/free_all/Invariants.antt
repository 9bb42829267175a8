use Rattle.std.specs.Prelude.{ℕ}
use Rattle.sg_ops.specs.Table.{Table as Operations, table_of}
use Rattle.sg_store.specs.Ground.{Ground, IsLawful}
use Rattle.sg_store.specs.Engine.{View}
use Rattle.sg_store.specs.Calls.{Since, IsLeavingSince}
use Rattle.sg_store.specs.Seen.{core_of}
use Rattle.sg_store.specs.Store.{Core}
use Rattle.sg_store.proofs.store.Store.free_all.Given as goal

-- some of it has been freed
abbrev pub so_far : Operations → (before now : Core) → (u left : ℕ) → (g : Ground) → (v w : View g) → Type 0
so_far t before now u left g v w = IsLeavingSince t g (IsLawful t g) v w before now u left

abbrev pub invariant-dropped : goal.invariant-dropped
invariant-dropped g l =
    Since (table_of (λ z. (goal.RecordOp-dyn g z).record_meaning z.1) (λ z. (goal.RangeOp-dyn g z).range_meaning z.1) l.ops)
    (g.E.Engine.view l.fn.self.engine) (g.E.Engine.view l.self.engine) (core_of l.fn.self) (core_of l.self)
    (so_far (table_of (λ z. (goal.RecordOp-dyn g z).record_meaning z.1) (λ z. (goal.RangeOp-dyn g z).range_meaning z.1) l.ops) (core_of l.fn.self) (core_of l.self) l.txn.0 l.left)

abbrev pub decreases-dropped : goal.decreases-dropped
decreases-dropped g l = l.left
