use Rattle.sg_commands.proofs.AllDone.{done_tells_all}
use Rattle.sg_commands.proofs.law.done_tells_all.Goals as goal

pub returns : goal.returns
returns g c = done_tells_all g.E.Engine.basis g.E.Opens.says
