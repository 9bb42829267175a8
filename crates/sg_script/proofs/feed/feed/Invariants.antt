use Rattle.std.proofs.Common.{◌≡◌, List, ℕ, Option, length}
use Rattle.sg_ops.specs.Table.{table_of}
use Rattle.sg_store.specs.Heeds.{Heeds}
use Rattle.sg_session.specs.Shows.{Core}
use Rattle.sg_session.specs.Seen.{session_core, session_engine, Serves}
use Rattle.sg_script.specs.Feeding.{Before, After}
use Rattle.sg_script.proofs.feed.feed.Given as goal

-- the lines so far, with what is left of the piece
abbrev pub invariant-lines : goal.invariant-lines
invariant-lines g l = record {
  so_far : (e : _) (k : Core) (lines : List (List ℕ)) (first : Option (List ℕ)) (held : List ℕ)
      → Before g.E.Engine (table_of (λ z. (goal.RecordOp-dyn g z).record_meaning z.1) (λ z. (goal.RangeOp-dyn g z).range_meaning z.1) l.ops) e k lines first (g.K.Sink.taken l.fn.out) (session_engine l.fn.session) (session_core l.fn.session) held l.fn.pending
      → After g.E.Engine (table_of (λ z. (goal.RecordOp-dyn g z).record_meaning z.1) (λ z. (goal.RangeOp-dyn g z).range_meaning z.1) l.ops) e k lines first (g.K.Sink.taken l.out) (session_engine l.session) (session_core l.session) held l.piece l.rest l.pending;
  serves : Serves (table_of (λ z. (goal.RecordOp-dyn g z).record_meaning z.1) (λ z. (goal.RangeOp-dyn g z).range_meaning z.1) l.ops) l.session;
  told : (g.E.Engine.view (session_engine l.session)).Told → (g.E.Engine.view (session_engine l.fn.session)).Told;
  heeds : Heeds l.fn.session.store.stop l.session.store.stop (g.E.Engine.view (session_engine l.fn.session)) (g.E.Engine.view (session_engine l.session));
  quiet : g.K.Sink.faults l.out ≡ g.K.Sink.faults l.fn.out;
}

abbrev pub decreases-lines : goal.decreases-lines
decreases-lines g l = length l.rest
