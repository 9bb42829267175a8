use Rattle.std.specs.Prelude.{ℕ, List}
use Rattle.sg_ops.specs.Table.{Table as Operations, table_of}
use Rattle.sg_core.specs.Live.{Txn}
use Rattle.sg_store.specs.Ground.{Ground, IsLawful}
use Rattle.sg_store.specs.Engine.{View}
use Rattle.sg_store.specs.Calls.{GivesSince, IsBackSince}
use Rattle.sg_store.specs.Seen.{core_of}
use Rattle.sg_store.proofs.store.Store.undo_to.Given as goal

-- some actions have been undone
abbrev pub so_far : Operations → (before now : List Txn) → (u stop at : ℕ) → (g : Ground) → (v w : View g) → Type 0
so_far t before now u stop at g v w = IsBackSince t g (IsLawful t g) v w before now u stop at

abbrev pub invariant-notes : goal.invariant-notes
invariant-notes g l =
    GivesSince (table_of (λ z. (goal.RecordOp-dyn g z).record_meaning z.1) (λ z. (goal.RangeOp-dyn g z).range_meaning z.1) l.ops)
    (g.E.Engine.view l.fn.self.engine) (g.E.Engine.view l.self.engine) (core_of l.fn.self) (core_of l.self) l.txn.0
    (so_far (table_of (λ z. (goal.RecordOp-dyn g z).record_meaning z.1) (λ z. (goal.RangeOp-dyn g z).range_meaning z.1) l.ops) (core_of l.fn.self).live (core_of l.self).live l.txn.0 l.stop l.at)

abbrev pub decreases-notes : goal.decreases-notes
decreases-notes g l = l.at
