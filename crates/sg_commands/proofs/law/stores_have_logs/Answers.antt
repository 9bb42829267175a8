use Rattle.sg_commands.proofs.Stored.{has_log}
use Rattle.sg_commands.proofs.law.stores_have_logs.Goals as goal

pub returns : goal.returns
returns c = has_log
