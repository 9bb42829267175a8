use Rattle.std.proofs.Common.{◌≡◌, ◌≤◌, ◌-◌}
use Rattle.sg_ops.specs.Table.{table_of}
use Rattle.sg_store.specs.Heeds.{Heeds}
use Rattle.sg_session.specs.Seen.{session_core, session_engine, Serves}
use Rattle.sg_script.proofs.UnderWay.{IsUnderWay}
use Rattle.sg_script.proofs.script.run_script.Given as goal

abbrev pub invariant-pieces : goal.invariant-pieces
invariant-pieces g l = record {
  so_far : IsUnderWay g.E.Engine (table_of (λ z. (goal.RecordOp-dyn g z).record_meaning z.1) (λ z. (goal.RangeOp-dyn g z).range_meaning z.1) l.ops) (session_engine l.fn.session) (session_core l.fn.session) (g.S.Source.left l.fn.script) (g.S.Source.left l.script) (g.K.Sink.taken l.fn.out) (g.K.Sink.taken l.out)
      (session_engine l.session) (session_core l.session) l.line l.total;
  serves : Serves (table_of (λ z. (goal.RecordOp-dyn g z).record_meaning z.1) (λ z. (goal.RangeOp-dyn g z).range_meaning z.1) l.ops) l.session;
  short : l.total ≤ 268435456;
  source : g.S.Source.faults l.script ≡ g.S.Source.faults l.fn.script;
  sink : g.K.Sink.faults l.out ≡ g.K.Sink.faults l.fn.out;
  told : (g.E.Engine.view (session_engine l.session)).Told → (g.E.Engine.view (session_engine l.fn.session)).Told;
  heeds : Heeds l.fn.session.store.stop l.session.store.stop (g.E.Engine.view (session_engine l.fn.session)) (g.E.Engine.view (session_engine l.session));
}

abbrev pub decreases-pieces : goal.decreases-pieces
decreases-pieces g l = 268435456 - l.total
