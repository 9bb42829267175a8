use Rattle.sg_session.proofs.session.Session.new.Goals as goal

pub returns-in-Ok-clause-serves : goal.returns-in-Ok-clause-serves
returns-in-Ok-clause-serves g c = c.over.ensures.serves
