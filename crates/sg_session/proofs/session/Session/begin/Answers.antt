use Rattle.std.proofs.Common.{refl, sym, ap, ◌∙◌}
use Rattle.sg_store.specs.Engine.{led}
use Rattle.sg_session.specs.Seen.{session_core}
use Rattle.sg_session.proofs.Steps as steps
use Rattle.sg_session.proofs.Serves.{store_serves}
use Rattle.sg_store.proofs.Heeding as heeding
use Rattle.sg_words.specs.Answered.{shown_answer}
use Rattle.sg_words.specs.Requests.Asked.{Of}
use Rattle.sg_store.specs.Seen.{core_of}
use Rattle.sg_store.specs.Store.{Core}
use Rattle.sg_session.specs.Lines.Line.{Other}
use Rattle.sg_session.specs.Causes.{trouble_of}
use Rattle.sg_session.proofs.Causing as causing
use Rattle.sg_words.specs.Requests.Request.{Begin}
use Rattle.sg_session.proofs.session.Session.begin.Goals as goal

pub returns-then-is_some-clause-goes : goal.returns-then-is_some-clause-goes
returns-then-is_some-clause-goes g c into t z from m told x lawful shows =
    let p = steps.by_some c.named.result _ (sym c.is_some.ensures ∙ c.if-is_some.true) c.named.ensures in
    steps.begin_live t (g.E.Engine.basis z) (led t z from (g.E.Engine.view c.args.self.now.store.engine)) x (session_core c.args.self.now) shows c.requires.running c.args.name p.0 p.1

pub returns-then-is_full-clause-goes : goal.returns-then-is_full-clause-goes
returns-then-is_full-clause-goes g c into t z from m told x lawful shows =
    let none = steps.by_none c.named.result _ (sym c.is_some.ensures ∙ c.if-is_some.false) c.named.ensures in
    steps.begin_many t (g.E.Engine.basis z) (led t z from (g.E.Engine.view c.args.self.now.store.engine)) x (session_core c.args.self.now) shows c.requires.running c.args.name none (sym c.is_full.ensures ∙ c.if-is_full.true)

pub returns-in-Ok-clause-goes : goal.returns-in-Ok-clause-goes
returns-in-Ok-clause-goes g c into t z from m told x lawful shows =
    let none = steps.by_none c.named.result _ (sym c.is_some.ensures ∙ c.if-is_some.false) c.named.ensures in
    steps.begin_done t (g.E.Engine.basis z) (led t z from (g.E.Engine.view c.args.self.now.store.engine)) x (session_core c.args.self.now) shows c.requires.running c.args.name
    (led t z from (g.E.Engine.view c.begin.new.self.engine)) _ _ c.in-Ok.txn none c.add.ensures (c.in-Ok.ensures.begins t z from m told x c.args.name lawful shows.store)
    (λ none. c.begin.ensures.stock none t z from m told x lawful shows.store)

pub returns-in-Err-clause-goes : goal.returns-in-Err-clause-goes
returns-in-Err-clause-goes g c into t z from m told x lawful shows =
    let none = steps.by_none c.named.result _ (sym c.is_some.ensures ∙ c.if-is_some.false) c.named.ensures in
    steps.begin_refused t (g.E.Engine.basis z) (led t z from (g.E.Engine.view c.args.self.now.store.engine)) x (session_core c.args.self.now) shows c.requires.running c.args.name
    (led t z from (g.E.Engine.view c.begin.new.self.engine)) _ _ c.in-Err.why none (λ is. c.answer_to.ensures.says is into) (c.in-Err.ensures.begins t z from m told x c.args.name lawful shows.store)
    (λ none. c.begin.ensures.stock none t z from m told x lawful shows.store)

pub begin-requires : goal.begin-requires
begin-requires g c = let s = c.requires.serves in record { serves = (s.0, store_serves s.0 (g.E.Engine.view c.args.self.now.store.engine) (session_core c.args.self.now) s.1) }

pub returns-then-is_some-clause-heeds : goal.returns-then-is_some-clause-heeds
returns-then-is_some-clause-heeds g c = heeding.heeds_none c.args.self.now.store.stop (g.E.Engine.view c.args.self.now.store.engine)

pub returns-then-is_full-clause-heeds : goal.returns-then-is_full-clause-heeds
returns-then-is_full-clause-heeds g c = heeding.heeds_none c.args.self.now.store.stop (g.E.Engine.view c.args.self.now.store.engine)

pub returns-then-is_some-clause-caused : goal.returns-then-is_some-clause-caused
returns-then-is_some-clause-caused g c into = causing.well _ _ c.args.self.now.store.stop _ (Other (Of c.args.name Begin)) _ refl refl

pub returns-then-is_full-clause-caused : goal.returns-then-is_full-clause-caused
returns-then-is_full-clause-caused g c into = causing.well _ _ c.args.self.now.store.stop _ (Other (Of c.args.name Begin)) _ refl refl

pub returns-in-Ok-clause-caused : goal.returns-in-Ok-clause-caused
returns-in-Ok-clause-caused g c into = causing.well _ _ c.args.self.now.store.stop _ (Other (Of c.args.name Begin)) _ refl (ap (λ (k : Core). k.stopped) c.in-Ok.ensures.causes.3)

pub returns-in-Err-clause-caused : goal.returns-in-Err-clause-caused
returns-in-Err-clause-caused g c into =
    causing.by_trouble (g.E.Engine.view c.args.self.now.store.engine) (g.E.Engine.view c.begin.new.self.engine) c.args.self.now.store.stop c.begin.new.self.stop (Other (Of c.args.name Begin)) (shown_answer into c.answer_to.result) (trouble_of c.in-Err.why) (c.answer_to.ensures.trouble into) c.requires.running c.begin.ensures.heeds
    (causing.begin_refused (g.E.Engine.view c.args.self.now.store.engine) (g.E.Engine.view c.begin.new.self.engine) (core_of c.args.self.now.store) (core_of c.begin.new.self) c.args.name c.in-Err.why c.in-Err.ensures.causes)
