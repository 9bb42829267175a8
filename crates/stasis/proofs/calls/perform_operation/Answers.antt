use Rattle.sg_model.specs.SaidOps.{said_op}
use Rattle.sg_model.specs.Step.{is_changing}
use Rattle.sg_store.specs.Seen.{core_of}
use Rattle.stasis.proofs.Telling.{done_if, live_if, undone_if}
use Rattle.stasis.proofs.calls.perform_operation.Goals as goal

pub returns-clause-done : goal.returns-clause-done
returns-clause-done g c = λ live m durable h.
    done_if _ c.args.store.now c.perform.new.self c.perform.ensures.heeds (is_changing (said_op c.args.op.now)) c.args.txn.0 (said_op c.args.op.now) c.perform.new.into c.perform.result c.perform.ensures.causes
    live m durable (λ has. c.perform.ensures.rests live m durable has) h

pub returns-clause-refused : goal.returns-clause-refused
returns-clause-refused g c = λ live m durable h.
    undone_if _ c.args.store.now c.perform.new.self c.perform.ensures.heeds c.args.txn.0 (said_op c.args.op.now) c.perform.new.into c.perform.result c.perform.ensures.means c.perform.ensures.does
    live m durable h

pub returns-clause-live : goal.returns-clause-live
returns-clause-live g c =
    live_if (is_changing (said_op c.args.op.now)) c.args.txn.0 (g.E.Engine.view c.args.store.now.engine) (g.E.Engine.view c.perform.new.self.engine) (core_of c.args.store.now) (core_of c.perform.new.self) c.perform.result c.perform.ensures.causes
