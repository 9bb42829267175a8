use Rattle.sg_store.specs.Engine.{led}
use Rattle.sg_session.specs.Answered.{shown}
use Rattle.sg_session.specs.Goes.{around}
use Rattle.sg_session.specs.Lines.{line_of}
use Rattle.sg_session.specs.Seen.{session_core}
use Rattle.sg_session.proofs.Answering as answering
use Rattle.sg_session.proofs.Commits.{one_line}
use Rattle.sg_session.proofs.Serves.{serves_on}
use Rattle.sg_session.proofs.session.Session.answer.Goals as goal

pub returns-clause-serves : goal.returns-clause-serves
returns-clause-serves g c =
    serves_on _ (g.E.Engine.view c.args.self.now.store.engine) (g.E.Engine.view c.execute.new.self.store.engine) (session_core c.args.self.now) (session_core c.execute.new.self) (line_of c.args.text.now) (shown c.execute.new.into c.execute.result)
    c.execute.ensures.means c.execute.ensures.told c.execute.ensures.goes c.requires.serves

pub returns-clause-line : goal.returns-clause-line
returns-clause-line g c z from m told x lawful shows =
    answering.answered _ (g.E.Engine.basis z) lawful (led _ z from (g.E.Engine.view c.args.self.now.store.engine)) x (line_of c.args.text.now) (shown c.execute.new.into c.execute.result) (led _ z from (g.E.Engine.view c.execute.new.self.store.engine)) (session_core c.execute.new.self)
    (c.execute.ensures.goes z from m told x lawful shows)

pub returns-clause-one_line : goal.returns-clause-one_line
returns-clause-one_line g c running z from m told x lawful shows =
    let v = led _ z from (g.E.Engine.view c.args.self.now.store.engine) in
    let w = led _ z from (g.E.Engine.view c.execute.new.self.store.engine) in
    let h = c.execute.ensures.goes z from m told x lawful shows in
    one_line _ (g.E.Engine.basis z) v (session_core c.args.self.now) x (line_of c.args.text.now) (shown c.execute.new.into c.execute.result) w (session_core c.execute.new.self) shows running (around v w) h h.line_goes
