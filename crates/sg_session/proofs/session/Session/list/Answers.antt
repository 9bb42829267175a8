use Rattle.sg_model.specs.Verb.Op.{Names}
use Rattle.sg_store.specs.Engine.{led}
use Rattle.sg_session.specs.Seen.{session_core}
use Rattle.sg_store.proofs.Heeding as heeding
use Rattle.sg_session.proofs.Steps as steps
use Rattle.sg_session.proofs.Stocking as stocking
use Rattle.sg_session.proofs.Stocking.{with_stock}
use Rattle.sg_session.specs.Goes.{around}
use Rattle.sg_session.proofs.Serves.{store_serves}
use Rattle.sg_words.specs.Answered.{shown_answer}
use Rattle.sg_words.specs.Requests.Asked.{Of}
use Rattle.sg_store.specs.Seen.{core_of}
use Rattle.sg_store.specs.Store.{Core}
use Rattle.sg_session.specs.Lines.Line.{Other}
use Rattle.sg_session.specs.Causes.{trouble_of}
use Rattle.sg_session.proofs.Causing as causing
use Rattle.sg_words.specs.Requests.Request.{Do}
use Rattle.std.proofs.Common.{refl, ap}
use Rattle.sg_session.proofs.session.Session.list.Goals as goal

pub returns-in_default-clause-goes : goal.returns-in_default-clause-goes
returns-in_default-clause-goes g c into t z from m told x lawful shows =
    steps.do_none t (g.E.Engine.basis z) (led t z from (g.E.Engine.view c.args.self.now.store.engine)) x (session_core c.args.self.now) shows c.requires.running c.args.name Names c.in_default.ensures

pub returns-in-Ok-clause-goes : goal.returns-in-Ok-clause-goes
returns-in-Ok-clause-goes g c into t z from m told x lawful shows =
    steps.list_done t (g.E.Engine.basis z) (led t z from (g.E.Engine.view c.args.self.now.store.engine)) x (session_core c.args.self.now) shows c.requires.running c.args.name
    _ Names (led t z from (g.E.Engine.view c.list.new.self.engine)) _ c.in-Ok.names c.in-Some.ensures (c.in-Ok.ensures.lists t z from m told x lawful shows.store)
    lawful (g.E.Engine.leaves c.args.self.now.store.engine t z from m told) tt (λ none. c.list.ensures.stock none t z from m told x lawful shows.store)

pub returns-in-Err-clause-goes : goal.returns-in-Err-clause-goes
returns-in-Err-clause-goes g c into t z from m told x lawful shows =
    steps.do_refused t (g.E.Engine.basis z) (led t z from (g.E.Engine.view c.args.self.now.store.engine)) x (session_core c.args.self.now) shows c.requires.running c.args.name
    _ Names (led t z from (g.E.Engine.view c.list.new.self.engine)) _ into _ c.in-Err.why c.in-Some.ensures (λ is. c.answer_to.ensures.says is into) (c.in-Err.ensures.lists t z from m told x lawful shows.store)
    lawful (g.E.Engine.leaves c.args.self.now.store.engine t z from m told)
    (λ by_stock r shown. stocking.list_numbers t (around (led t z from (g.E.Engine.view c.args.self.now.store.engine)) (led t z from (g.E.Engine.view c.list.new.self.engine))) (with_stock x r) Names c.in-Some.named.txn.0 (g.E.Engine.view c.args.self.now.store.engine) (g.E.Engine.view c.list.new.self.engine) (core_of c.args.self.now.store) (core_of c.list.new.self) c.in-Err.why c.in-Err.ensures.causes)
    (λ none. c.list.ensures.stock none t z from m told x lawful shows.store)

pub list-requires : goal.list-requires
list-requires g c = let s = c.requires.serves in record { serves = (s.0, store_serves s.0 (g.E.Engine.view c.args.self.now.store.engine) (session_core c.args.self.now) s.1) }

pub returns-in_default-clause-heeds : goal.returns-in_default-clause-heeds
returns-in_default-clause-heeds g c = heeding.heeds_none c.args.self.now.store.stop (g.E.Engine.view c.args.self.now.store.engine)

pub returns-in_default-clause-caused : goal.returns-in_default-clause-caused
returns-in_default-clause-caused g c into = causing.well _ _ c.args.self.now.store.stop _ (Other (Of c.args.name (Do Names))) _ refl refl

pub returns-in-Ok-clause-caused : goal.returns-in-Ok-clause-caused
returns-in-Ok-clause-caused g c into = causing.well _ _ c.args.self.now.store.stop _ (Other (Of c.args.name (Do Names))) _ refl (ap (λ (k : Core). k.stopped) c.in-Ok.ensures.causes.2)

pub returns-in-Err-clause-caused : goal.returns-in-Err-clause-caused
returns-in-Err-clause-caused g c into =
    causing.by_trouble (g.E.Engine.view c.args.self.now.store.engine) (g.E.Engine.view c.list.new.self.engine) c.args.self.now.store.stop c.list.new.self.stop (Other (Of c.args.name (Do Names))) (shown_answer into c.answer_to.result) (trouble_of c.in-Err.why) (c.answer_to.ensures.trouble into) c.requires.running c.list.ensures.heeds
    (causing.list_refused (g.E.Engine.view c.args.self.now.store.engine) (g.E.Engine.view c.list.new.self.engine) (core_of c.args.self.now.store) (core_of c.list.new.self) c.args.name Names tt c.in-Some.named.txn.0 c.in-Err.why c.in-Err.ensures.causes)
