use Rattle.sg_commands.proofs.AllDone.{done_tells_all}
use Rattle.sg_commands.specs.Stores.{grounds, says}
use Rattle.sg_top.proofs.law.done_tells_all.Goals as goal

pub returns : goal.returns
returns c = done_tells_all grounds says
