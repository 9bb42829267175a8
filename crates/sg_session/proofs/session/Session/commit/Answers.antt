use Rattle.sg_store.specs.Engine.{led}
use Rattle.sg_session.specs.Seen.{session_core}
use Rattle.sg_session.proofs.Steps as steps
use Rattle.sg_session.proofs.Serves.{store_serves}
use Rattle.sg_store.proofs.Heeding as heeding
use Rattle.sg_words.specs.Answered.{shown_answer}
use Rattle.sg_words.specs.Requests.Asked.{Of}
use Rattle.sg_store.specs.Seen.{core_of}
use Rattle.sg_store.specs.Store.{Core}
use Rattle.sg_session.specs.Lines.Line.{Other}
use Rattle.sg_session.specs.Causes.{trouble_of}
use Rattle.sg_session.proofs.Answering.{none_named, one_named}
use Rattle.sg_session.proofs.Causing as causing
use Rattle.sg_words.specs.Requests.Request.{Commit}
use Rattle.std.proofs.Common.{refl, ap}
use Rattle.sg_session.proofs.session.Session.commit.Goals as goal

pub returns-in_default-clause-goes : goal.returns-in_default-clause-goes
returns-in_default-clause-goes g c into z from m told x lawful shows =
    steps.commit_none _ (g.E.Engine.basis z) (led _ z from (g.E.Engine.view c.args.self.now.store.engine)) x (session_core c.args.self.now) shows c.requires.running c.args.name c.in_default.ensures

pub returns-in-Ok-clause-goes : goal.returns-in-Ok-clause-goes
returns-in-Ok-clause-goes g c into z from m told x lawful shows =
    steps.commit_done _ (g.E.Engine.basis z) (led _ z from (g.E.Engine.view c.args.self.now.store.engine)) x (session_core c.args.self.now) shows c.requires.running c.args.name
    _ (led _ z from (g.E.Engine.view c.commit.new.self.engine)) _ _ c.in-Some.ensures c.remove.ensures (c.in-Ok.ensures.commits z from m told x lawful shows.store)
    (c.in-Ok.ensures.stock z from m told x lawful shows.store)

pub returns-in-Err-clause-goes : goal.returns-in-Err-clause-goes
returns-in-Err-clause-goes g c into z from m told x lawful shows =
    steps.commit_refused _ (g.E.Engine.basis z) (led _ z from (g.E.Engine.view c.args.self.now.store.engine)) x (session_core c.args.self.now) shows c.requires.running c.args.name
    _ (led _ z from (g.E.Engine.view c.commit.new.self.engine)) _ _ c.in-Err.why c.in-Some.ensures (λ is. c.answer_to.ensures.says is into) (c.in-Err.ensures.commits z from m told x lawful shows.store)
    (λ none. c.in-Err.ensures.stock_left none z from m told x lawful shows.store)

pub commit-requires : goal.commit-requires
commit-requires g c = record { serves = store_serves _ (g.E.Engine.view c.args.self.now.store.engine) (session_core c.args.self.now) c.requires.serves }

pub returns-in_default-clause-heeds : goal.returns-in_default-clause-heeds
returns-in_default-clause-heeds g c = heeding.heeds_none c.args.self.now.store.stop (g.E.Engine.view c.args.self.now.store.engine)

pub returns-in_default-clause-caused : goal.returns-in_default-clause-caused
returns-in_default-clause-caused g c into = causing.well _ _ c.args.self.now.store.stop _ (Other (Of c.args.name Commit)) _ refl refl

pub returns-in-Ok-clause-caused : goal.returns-in-Ok-clause-caused
returns-in-Ok-clause-caused g c into = causing.well _ _ c.args.self.now.store.stop _ (Other (Of c.args.name Commit)) _ refl (ap (λ (k : Core). k.stopped) c.in-Ok.ensures.causes.2)

pub returns-in-Err-clause-caused : goal.returns-in-Err-clause-caused
returns-in-Err-clause-caused g c into =
    causing.by_trouble (g.E.Engine.view c.args.self.now.store.engine) (g.E.Engine.view c.commit.new.self.engine) c.args.self.now.store.stop c.commit.new.self.stop (Other (Of c.args.name Commit)) (shown_answer into c.answer_to.result) (trouble_of c.in-Err.why) (c.answer_to.ensures.trouble into) c.requires.running c.commit.ensures.heeds
    (causing.commit_refused (g.E.Engine.view c.args.self.now.store.engine) (g.E.Engine.view c.commit.new.self.engine) (core_of c.args.self.now.store) (core_of c.commit.new.self) c.args.name c.in-Some.named.txn.0 c.in-Err.why c.in-Err.ensures.causes)

pub returns-in_default-clause-hands : goal.returns-in_default-clause-hands
returns-in_default-clause-hands g c = none_named _ _ c.in_default.ensures

pub returns-in-Ok-clause-hands : goal.returns-in-Ok-clause-hands
returns-in-Ok-clause-hands g c = one_named _ _ _ c.in-Some.ensures c.commit.ensures.hands

pub returns-in-Err-clause-hands : goal.returns-in-Err-clause-hands
returns-in-Err-clause-hands g c = one_named _ _ _ c.in-Some.ensures c.commit.ensures.hands
