use Rattle.sg_model.specs.SaidOps.{said_op}
use Rattle.sg_store.specs.Engine.{led}
use Rattle.sg_session.specs.Seen.{session_core}
use Rattle.sg_session.proofs.Steps as steps
use Rattle.sg_session.proofs.Stocking as stocking
use Rattle.sg_session.proofs.Serves.{store_serves}
use Rattle.sg_store.proofs.Heeding as heeding
use Rattle.sg_words.specs.Answered.{shown_answer}
use Rattle.sg_words.specs.Requests.Asked.{Of}
use Rattle.sg_store.specs.Seen.{core_of}
use Rattle.sg_session.specs.Lines.Line.{Other}
use Rattle.sg_session.specs.Causes.{trouble_of}
use Rattle.sg_session.proofs.Causing as causing
use Rattle.sg_words.specs.Requests.Request.{Do}
use Rattle.sg_model.specs.Step.{is_changing}
use Rattle.std.proofs.Common.{Err, refl, sym, ◌∙◌}
use Rattle.sg_ops.specs.Table.{table_of}
use Rattle.sg_session.proofs.session.Session.perform.Given as given
use Rattle.sg_session.proofs.session.Session.perform.Goals as goal

pub returns-in_default-clause-goes : goal.returns-in_default-clause-goes
returns-in_default-clause-goes g c z from m told x lawful shows =
    steps.do_none _ (g.E.Engine.basis z) (led _ z from (g.E.Engine.view c.args.self.now.store.engine)) x (session_core c.args.self.now) shows c.requires.running c.args.name (said_op c.args.op.now) c.in_default.ensures

pub returns-in-Ok-clause-goes : goal.returns-in-Ok-clause-goes
returns-in-Ok-clause-goes g c z from m told x lawful shows =
    steps.do_done _ (g.E.Engine.basis z) (led _ z from (g.E.Engine.view c.args.self.now.store.engine)) x (session_core c.args.self.now) shows c.requires.running c.args.name
    _ (said_op c.args.op.now) (led _ z from (g.E.Engine.view c.perform.new.self.engine)) _ c.perform.new.into c.in-Ok.reply c.in-Some.ensures (c.in-Ok.ensures.does z from m told x lawful shows.store)
    lawful (g.E.Engine.leaves c.args.self.now.store.engine _ z from m told) (c.in-Ok.ensures.numbers z from m told x lawful shows.store) (c.in-Ok.ensures.stock z from m told x lawful shows.store)

pub returns-in-Err-clause-goes : goal.returns-in-Err-clause-goes
returns-in-Err-clause-goes g c z from m told x lawful shows =
    let t = table_of (λ y. (given.RecordOp-dyn g y).record_meaning y.1) (λ y. (given.RangeOp-dyn g y).range_meaning y.1) c.args.ops.now in
    steps.do_refused t (g.E.Engine.basis z) (led t z from (g.E.Engine.view c.args.self.now.store.engine)) x (session_core c.args.self.now) shows c.requires.running c.args.name
    _ (said_op c.args.op.now) (led t z from (g.E.Engine.view c.perform.new.self.engine)) _ c.perform.new.into _ c.in-Err.why c.in-Some.ensures (λ is. c.answer_to.ensures.says is c.perform.new.into) (c.in-Err.ensures.does z from m told x lawful shows.store)
    lawful (g.E.Engine.leaves c.args.self.now.store.engine t z from m told)
    (λ by_stock r shown. stocking.numbers_so t (g.E.Engine.basis z) lawful by_stock (led t z from (g.E.Engine.view c.args.self.now.store.engine)) (led t z from (g.E.Engine.view c.perform.new.self.engine)) (core_of c.args.self.now.store) x r
    (shows.store.runs (steps.going t (g.E.Engine.basis z) (led t z from (g.E.Engine.view c.args.self.now.store.engine)) x (session_core c.args.self.now) shows c.requires.running)) shown (said_op c.args.op.now) c.perform.new.into (Err c.in-Err.why) (c.in-Err.ensures.numbers z from m told x lawful shows.store))
    (λ none. c.in-Err.ensures.stock_left none z from m told x lawful shows.store)

pub perform-requires-clause-serves : goal.perform-requires-clause-serves
perform-requires-clause-serves g c = store_serves _ (g.E.Engine.view c.args.self.now.store.engine) (session_core c.args.self.now) c.requires.serves

pub returns-in_default-clause-heeds : goal.returns-in_default-clause-heeds
returns-in_default-clause-heeds g c = heeding.heeds_none c.args.self.now.store.stop (g.E.Engine.view c.args.self.now.store.engine)

pub returns-in_default-clause-caused : goal.returns-in_default-clause-caused
returns-in_default-clause-caused g c = causing.well _ _ c.args.self.now.store.stop _ (Other (Of c.args.name (Do (said_op c.args.op.now)))) _ refl refl

pub returns-in-Ok-clause-caused : goal.returns-in-Ok-clause-caused
returns-in-Ok-clause-caused g c = causing.well _ _ c.args.self.now.store.stop _ (Other (Of c.args.name (Do (said_op c.args.op.now)))) _ refl (c.in-Ok.ensures.causes.3 ∙ sym c.in-Ok.ensures.causes.0)

pub returns-in-Err-clause-caused : goal.returns-in-Err-clause-caused
returns-in-Err-clause-caused g c =
    causing.by_trouble (g.E.Engine.view c.args.self.now.store.engine) (g.E.Engine.view c.perform.new.self.engine) c.args.self.now.store.stop c.perform.new.self.stop (Other (Of c.args.name (Do (said_op c.args.op.now)))) (shown_answer c.perform.new.into c.answer_to.result) (trouble_of c.in-Err.why) (c.answer_to.ensures.trouble c.perform.new.into) c.requires.running c.perform.ensures.heeds
    (causing.do_refused (g.E.Engine.view c.args.self.now.store.engine) (g.E.Engine.view c.perform.new.self.engine) (core_of c.args.self.now.store) (core_of c.perform.new.self) c.args.name (said_op c.args.op.now) (is_changing (said_op c.args.op.now)) c.in-Some.named.txn.0 c.in-Err.why c.in-Err.ensures.causes)
