use Rattle.sg_base.proofs.CellBytes.{has_bytes}
use Rattle.sg_found.proofs.looking.says_bytes.Goals as goal

pub returns : goal.returns
returns c = has_bytes c.args.page.now.page.now c.are_bytes.ensures
