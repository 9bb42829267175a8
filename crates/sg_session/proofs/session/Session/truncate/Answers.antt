use Rattle.sg_store.specs.Engine.{led}
use Rattle.sg_session.specs.Seen.{session_core}
use Rattle.sg_session.proofs.Steps as steps
use Rattle.sg_session.proofs.Serves.{store_serves}
use Rattle.sg_words.specs.Answered.{shown_answer}
use Rattle.sg_store.specs.Seen.{core_of}
use Rattle.sg_store.specs.Store.{Core}
use Rattle.sg_session.specs.Lines.Line.{OfStore}
use Rattle.sg_words.specs.declared.upkeep.Upkeep.TheVariants as upkeeps
use Rattle.sg_session.specs.Causes.{trouble_of}
use Rattle.sg_session.proofs.Causing as causing
use Rattle.std.proofs.Common.{refl, ap}
use Rattle.sg_session.proofs.session.Session.truncate.Goals as goal

pub returns-in-Ok-clause-goes : goal.returns-in-Ok-clause-goes
returns-in-Ok-clause-goes g c into t z from m told x lawful shows =
    steps.truncate_done t (g.E.Engine.basis z) (led t z from (g.E.Engine.view c.args.self.now.store.engine)) x (session_core c.args.self.now) shows c.requires.running
    (led t z from (g.E.Engine.view c.truncate.new.self.engine)) _ (c.in-Ok.ensures.truncates t z from m told x lawful shows.store)
    (λ none. c.truncate.ensures.stock none t z from m told x lawful shows.store)

pub returns-in-Err-clause-goes : goal.returns-in-Err-clause-goes
returns-in-Err-clause-goes g c into t z from m told x lawful shows =
    steps.truncate_refused t (g.E.Engine.basis z) (led t z from (g.E.Engine.view c.args.self.now.store.engine)) x (session_core c.args.self.now) shows c.requires.running
    (led t z from (g.E.Engine.view c.truncate.new.self.engine)) _ _ c.in-Err.why (λ is. c.answer_to.ensures.says is into) (c.in-Err.ensures.truncates t z from m told x lawful shows.store)
    (λ none. c.truncate.ensures.stock none t z from m told x lawful shows.store)

pub truncate-requires : goal.truncate-requires
truncate-requires g c = let s = c.requires.serves in record { serves = (s.0, store_serves s.0 (g.E.Engine.view c.args.self.now.store.engine) (session_core c.args.self.now) s.1) }

pub returns-in-Ok-clause-caused : goal.returns-in-Ok-clause-caused
returns-in-Ok-clause-caused g c into = causing.well _ _ c.args.self.now.store.stop _ (OfStore upkeeps.Truncate) _ refl (ap (λ (k : Core). k.stopped) c.in-Ok.ensures.causes.1)

pub returns-in-Err-clause-caused : goal.returns-in-Err-clause-caused
returns-in-Err-clause-caused g c into =
    causing.by_trouble (g.E.Engine.view c.args.self.now.store.engine) (g.E.Engine.view c.truncate.new.self.engine) c.args.self.now.store.stop c.truncate.new.self.stop (OfStore upkeeps.Truncate) (shown_answer into c.answer_to.result) (trouble_of c.in-Err.why) (c.answer_to.ensures.trouble into) c.requires.running c.truncate.ensures.heeds
    (causing.truncate_refused (g.E.Engine.view c.args.self.now.store.engine) (g.E.Engine.view c.truncate.new.self.engine) (core_of c.args.self.now.store) (core_of c.truncate.new.self) c.in-Err.why c.in-Err.ensures.causes)

pub returns-in-Ok-clause-cuts : goal.returns-in-Ok-clause-cuts
returns-in-Ok-clause-cuts g c none = c.in-Ok.ensures.cuts

pub returns-in-Err-clause-cuts : goal.returns-in-Err-clause-cuts
returns-in-Err-clause-cuts g c none = absurd (causing.flush_stops (g.E.Engine.view c.args.self.now.store.engine) (g.E.Engine.view c.truncate.new.self.engine) (core_of c.args.self.now.store) (core_of c.truncate.new.self) c.in-Err.why c.in-Err.ensures.causes none)
