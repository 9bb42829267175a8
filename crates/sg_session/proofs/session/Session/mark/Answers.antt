use Rattle.std.proofs.Common.{sym, ap}
use Rattle.sg_words.specs.declared.marking.Marking.{Marking}
use Rattle.sg_store.specs.Engine.{led}
use Rattle.sg_session.specs.Lines.Line.{OfMarks}
use Rattle.sg_session.proofs.Answering as answering
use Rattle.sg_session.proofs.session.Session.mark.Goals as goal

pub returns-in-Save-clause-goes : goal.returns-in-Save-clause-goes
returns-in-Save-clause-goes g c into z from m told x lawful shows =
    answering.goes_line _ (g.E.Engine.basis z) lawful (led _ z from (g.E.Engine.view c.args.self.now.store.engine)) x _ _ _ _ _ (ap (λ (k : Marking). OfMarks c.args.name k) (sym c.in-Save.is)) (c.save.ensures.goes into _ z from m told x lawful shows)

pub returns-in-Back-clause-goes : goal.returns-in-Back-clause-goes
returns-in-Back-clause-goes g c into z from m told x lawful shows =
    answering.goes_line _ (g.E.Engine.basis z) lawful (led _ z from (g.E.Engine.view c.args.self.now.store.engine)) x _ _ _ _ _ (ap (λ (k : Marking). OfMarks c.args.name k) (sym c.in-Back.is)) (c.back.ensures.goes into z from m told x lawful shows)
