use Rattle.sg_session.specs.Names.{all_live}
use Rattle.sg_session.proofs.Serves.{starts_serving}
use Rattle.sg_store.specs.Seen.{core_of}
use Rattle.sg_session.proofs.session.Session.over.Goals as goal

pub returns-clause-serves : goal.returns-clause-serves
returns-clause-serves g c t s = starts_serving t (g.E.Engine.view c.args.store.engine) (core_of c.args.store) (all_live c.args.names.all.items) c.requires.unnamed c.requires.none s
