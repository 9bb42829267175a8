use Rattle.std.proofs.Common.{Some, None, refl, sym, ap, ◌∙◌}
use Rattle.std.specs.Prelude.{is_some}
use Rattle.sg_words.specs.Requests.Asked.{Wrong}
use Rattle.sg_store.specs.Engine.{led}
use Rattle.sg_store.proofs.Heeding as heeding
use Rattle.sg_session.specs.Seen.{session_core}
use Rattle.sg_session.specs.Goes.{when_stopped}
use Rattle.sg_session.specs.Lines.{line_of}
use Rattle.sg_session.specs.Lines.Line.{OfMarks, Other}
use Rattle.sg_session.proofs.Steps as steps
use Rattle.sg_session.proofs.Answering as answering
use Rattle.sg_session.proofs.Causing as causing
use Rattle.sg_session.proofs.session.Session.execute_marking.Goals as goal

pub returns-in_default-clause-goes : goal.returns-in_default-clause-goes
returns-in_default-clause-goes g c into z from m told x lawful shows =
    answering.goes_line _ (g.E.Engine.basis z) lawful (led _ z from (g.E.Engine.view c.args.self.now.store.engine)) x _ _ _ _ _ (answering.by_marking c.args.text.now None c.requires.wrong c.requires.no_upkeep (sym c.in_default.ensures))
    (steps.bad_syntax _ (g.E.Engine.basis z) (led _ z from (g.E.Engine.view c.args.self.now.store.engine)) x (session_core c.args.self.now) shows)

pub returns-then-is_some-clause-goes : goal.returns-then-is_some-clause-goes
returns-then-is_some-clause-goes g c into z from m told x lawful shows =
    answering.goes_line _ (g.E.Engine.basis z) lawful (led _ z from (g.E.Engine.view c.args.self.now.store.engine)) x _ _ _ _ _ (answering.by_marking c.args.text.now (Some c.in-Some.asked) c.requires.wrong c.requires.no_upkeep (sym c.in-Some.ensures))
    (steps.marks_stopped _ (g.E.Engine.basis z) (led _ z from (g.E.Engine.view c.args.self.now.store.engine)) x (session_core c.args.self.now) shows c.in-Some.asked.0 c.in-Some.asked.1 (ap is_some (sym c.stop.ensures) ∙ (sym c.is_some.ensures ∙ c.if-is_some.true)))

pub returns-clause-goes : goal.returns-clause-goes
returns-clause-goes g c into z from m told x lawful shows =
    answering.goes_line _ (g.E.Engine.basis z) lawful (led _ z from (g.E.Engine.view c.args.self.now.store.engine)) x _ _ _ _ _ (answering.by_marking c.args.text.now (Some c.in-Some.asked) c.requires.wrong c.requires.no_upkeep (sym c.in-Some.ensures))
    (c.mark.ensures.goes into z from m told x lawful shows)

pub returns-in_default-clause-still : goal.returns-in_default-clause-still
returns-in_default-clause-still g c some into = ap when_stopped (answering.by_marking c.args.text.now None c.requires.wrong c.requires.no_upkeep (sym c.in_default.ensures))

pub returns-then-is_some-clause-still : goal.returns-then-is_some-clause-still
returns-then-is_some-clause-still g c some into = ap when_stopped (answering.by_marking c.args.text.now (Some c.in-Some.asked) c.requires.wrong c.requires.no_upkeep (sym c.in-Some.ensures))

pub returns-clause-still : goal.returns-clause-still
returns-clause-still g c some into = heeding.not_stopped c.args.self.now.store.stop (ap is_some (sym c.stop.ensures) ∙ (sym c.is_some.ensures ∙ c.if-is_some.false)) some

pub returns-in_default-clause-caused : goal.returns-in_default-clause-caused
returns-in_default-clause-caused g c into = causing.at_line _ _ c.args.self.now.store.stop _ (Other Wrong) (line_of c.args.text.now) _ (answering.by_marking c.args.text.now None c.requires.wrong c.requires.no_upkeep (sym c.in_default.ensures))
    (causing.well _ _ c.args.self.now.store.stop _ (Other Wrong) _ refl refl)

pub returns-then-is_some-clause-caused : goal.returns-then-is_some-clause-caused
returns-then-is_some-clause-caused g c into = causing.at_line _ _ c.args.self.now.store.stop _ (OfMarks c.in-Some.asked.0 c.in-Some.asked.1) (line_of c.args.text.now) _ (answering.by_marking c.args.text.now (Some c.in-Some.asked) c.requires.wrong c.requires.no_upkeep (sym c.in-Some.ensures))
    (causing.well _ _ c.args.self.now.store.stop _ (OfMarks c.in-Some.asked.0 c.in-Some.asked.1) _ refl refl)

pub returns-clause-caused : goal.returns-clause-caused
returns-clause-caused g c into = causing.at_line _ _ c.args.self.now.store.stop _ (OfMarks c.in-Some.asked.0 c.in-Some.asked.1) (line_of c.args.text.now) _ (answering.by_marking c.args.text.now (Some c.in-Some.asked) c.requires.wrong c.requires.no_upkeep (sym c.in-Some.ensures))
    (c.mark.ensures.caused into)
