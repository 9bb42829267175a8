use Rattle.sg_store.specs.Engine.{led}
use Rattle.sg_session.specs.Seen.{session_core}
use Rattle.sg_session.proofs.Steps as steps
use Rattle.sg_session.proofs.Serves.{store_serves}
use Rattle.sg_store.proofs.Heeding as heeding
use Rattle.sg_words.specs.Answered.{shown_answer}
use Rattle.sg_words.specs.declared.marking.Marking.TheVariants as markings
use Rattle.sg_store.specs.Seen.{core_of}
use Rattle.sg_store.specs.Store.{Core}
use Rattle.sg_session.specs.Lines.Line.{OfMarks}
use Rattle.sg_session.specs.Causes.{trouble_at_mark}
use Rattle.sg_session.proofs.Causing as causing
use Rattle.std.proofs.Common.{rules, ◌≡◌, refl, ap}
use Rattle.sg_session.proofs.session.Session.save.Goals as goal

pub returns-in_default-clause-goes : goal.returns-in_default-clause-goes
returns-in_default-clause-goes g c into t z from m told x lawful shows =
    steps.save_none t (g.E.Engine.basis z) (led t z from (g.E.Engine.view c.args.self.now.store.engine)) x (session_core c.args.self.now) shows c.requires.running c.args.name c.in_default.ensures

pub returns-in-Ok-clause-goes : goal.returns-in-Ok-clause-goes
returns-in-Ok-clause-goes g c into t z from m told x lawful shows =
    let e : c.from.result ≡ c.in-Ok.mark = search rules in
    steps.save_done t (g.E.Engine.basis z) (led t z from (g.E.Engine.view c.args.self.now.store.engine)) x (session_core c.args.self.now) shows c.requires.running c.args.name
    _ (led t z from (g.E.Engine.view c.save.new.self.engine)) _ c.in-Ok.mark c.from.result e c.in-Some.ensures (c.in-Ok.ensures.saves t z from m told x lawful shows.store)
    (λ none. c.save.ensures.stock none t z from m told x lawful shows.store)

pub returns-in-Err-clause-goes : goal.returns-in-Err-clause-goes
returns-in-Err-clause-goes g c into t z from m told x lawful shows =
    steps.save_refused t (g.E.Engine.basis z) (led t z from (g.E.Engine.view c.args.self.now.store.engine)) x (session_core c.args.self.now) shows c.requires.running c.args.name
    _ (led t z from (g.E.Engine.view c.save.new.self.engine)) _ _ c.in-Err.why c.in-Some.ensures (λ is. c.answer_to_mark.ensures.says is into) (c.in-Err.ensures.saves t z from m told x lawful shows.store)
    (λ none. c.save.ensures.stock none t z from m told x lawful shows.store)

pub save-requires : goal.save-requires
save-requires g c = let s = c.requires.serves in record { serves = (s.0, store_serves s.0 (g.E.Engine.view c.args.self.now.store.engine) (session_core c.args.self.now) s.1) }

pub returns-in_default-clause-heeds : goal.returns-in_default-clause-heeds
returns-in_default-clause-heeds g c = heeding.heeds_none c.args.self.now.store.stop (g.E.Engine.view c.args.self.now.store.engine)

pub returns-in_default-clause-caused : goal.returns-in_default-clause-caused
returns-in_default-clause-caused g c into = causing.well _ _ c.args.self.now.store.stop _ (OfMarks c.args.name markings.Save) _ refl refl

pub returns-in-Ok-clause-caused : goal.returns-in-Ok-clause-caused
returns-in-Ok-clause-caused g c into = causing.well _ _ c.args.self.now.store.stop _ (OfMarks c.args.name markings.Save) _ refl (ap (λ (k : Core). k.stopped) c.in-Ok.ensures.causes.5.1)

pub returns-in-Err-clause-caused : goal.returns-in-Err-clause-caused
returns-in-Err-clause-caused g c into =
    causing.by_trouble (g.E.Engine.view c.args.self.now.store.engine) (g.E.Engine.view c.save.new.self.engine) c.args.self.now.store.stop c.save.new.self.stop (OfMarks c.args.name markings.Save) (shown_answer into c.answer_to_mark.result) (trouble_at_mark c.in-Err.why) (c.answer_to_mark.ensures.trouble into) c.requires.running c.save.ensures.heeds
    (causing.save_refused (g.E.Engine.view c.args.self.now.store.engine) (g.E.Engine.view c.save.new.self.engine) (core_of c.args.self.now.store) (core_of c.save.new.self) c.args.name c.in-Some.named.txn.0 c.in-Err.why c.in-Err.ensures.causes)
