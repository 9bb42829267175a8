use Rattle.sg_store.specs.Engine.{led}
use Rattle.sg_session.specs.Seen.{session_core}
use Rattle.sg_session.proofs.Steps as steps
use Rattle.sg_session.proofs.Serves.{store_serves}
use Rattle.sg_store.proofs.Heeding as heeding
use Rattle.sg_words.specs.Answered.{shown_answer}
use Rattle.sg_words.specs.declared.marking.Marking.TheVariants as markings
use Rattle.sg_store.specs.Seen.{core_of}
use Rattle.sg_store.specs.Store.{Core}
use Rattle.sg_session.specs.Lines.Line.{OfMarks}
use Rattle.sg_session.specs.Causes.{trouble_at_mark}
use Rattle.sg_session.proofs.Causing as causing
use Rattle.std.proofs.Common.{refl, ap}
use Rattle.sg_session.proofs.session.Session.back.Goals as goal
use Rattle.sg_session.proofs.Stocking.{asked_none}

pub returns-in_default-clause-goes : goal.returns-in_default-clause-goes
returns-in_default-clause-goes g c into z from m told x lawful shows =
    steps.back_none _ (g.E.Engine.basis z) (led _ z from (g.E.Engine.view c.args.self.now.store.engine)) x (session_core c.args.self.now) shows c.requires.running c.args.name c.args.mark c.in_default.ensures

pub returns-in-Ok-clause-goes : goal.returns-in-Ok-clause-goes
returns-in-Ok-clause-goes g c into z from m told x lawful shows =
    steps.back_done _ (g.E.Engine.basis z) (led _ z from (g.E.Engine.view c.args.self.now.store.engine)) x (session_core c.args.self.now) shows c.requires.running c.args.name c.args.mark
    _ (led _ z from (g.E.Engine.view c.rollback_to.new.self.engine)) _ c.in-Some.ensures (c.in-Ok.ensures.rolls_back z from m told x lawful shows.store)
    c.in-Ok.ensures.causes.2 (c.in-Ok.ensures.stock z from m told x lawful shows.store)

pub returns-in-Err-clause-goes : goal.returns-in-Err-clause-goes
returns-in-Err-clause-goes g c into z from m told x lawful shows =
    steps.back_refused _ (g.E.Engine.basis z) (led _ z from (g.E.Engine.view c.args.self.now.store.engine)) x (session_core c.args.self.now) shows c.requires.running c.args.name c.args.mark
    _ (led _ z from (g.E.Engine.view c.rollback_to.new.self.engine)) _ _ c.in-Err.why c.in-Some.ensures (λ is. c.answer_to_mark.ensures.says is into) (c.in-Err.ensures.rolls_back z from m told x lawful shows.store)
    (λ none. asked_none g.E.Engine _ z from c.args.self.now.store c.rollback_to.new.self
    (c.in-Err.ensures.asks (causing.back_stops (g.E.Engine.view c.args.self.now.store.engine) (g.E.Engine.view c.rollback_to.new.self.engine) (core_of c.args.self.now.store) (core_of c.rollback_to.new.self) c.args.mark c.in-Some.named.txn.0 c.in-Err.why c.in-Err.ensures.causes none)))

pub rollback_to-requires : goal.rollback_to-requires
rollback_to-requires g c = record { serves = store_serves _ (g.E.Engine.view c.args.self.now.store.engine) (session_core c.args.self.now) c.requires.serves }

pub returns-in_default-clause-heeds : goal.returns-in_default-clause-heeds
returns-in_default-clause-heeds g c = heeding.heeds_none c.args.self.now.store.stop (g.E.Engine.view c.args.self.now.store.engine)

pub returns-in_default-clause-caused : goal.returns-in_default-clause-caused
returns-in_default-clause-caused g c into = causing.well _ _ c.args.self.now.store.stop _ (OfMarks c.args.name (markings.Back c.args.mark)) _ refl refl

pub returns-in-Ok-clause-caused : goal.returns-in-Ok-clause-caused
returns-in-Ok-clause-caused g c into = causing.well _ _ c.args.self.now.store.stop _ (OfMarks c.args.name (markings.Back c.args.mark)) _ refl (ap (λ (k : Core). k.stopped) c.in-Ok.ensures.causes.3)

pub returns-in-Err-clause-caused : goal.returns-in-Err-clause-caused
returns-in-Err-clause-caused g c into =
    causing.by_trouble (g.E.Engine.view c.args.self.now.store.engine) (g.E.Engine.view c.rollback_to.new.self.engine) c.args.self.now.store.stop c.rollback_to.new.self.stop (OfMarks c.args.name (markings.Back c.args.mark)) (shown_answer into c.answer_to_mark.result) (trouble_at_mark c.in-Err.why) (c.answer_to_mark.ensures.trouble into) c.requires.running c.rollback_to.ensures.heeds
    (causing.back_refused (g.E.Engine.view c.args.self.now.store.engine) (g.E.Engine.view c.rollback_to.new.self.engine) (core_of c.args.self.now.store) (core_of c.rollback_to.new.self) c.args.name c.args.mark c.in-Some.named.txn.0 c.in-Err.why c.in-Err.ensures.causes)
