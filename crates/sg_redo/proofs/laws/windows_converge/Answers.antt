use Rattle.sg_redo.proofs.Bytes.{converge}
use Rattle.sg_redo.proofs.laws.windows_converge.Goals as goal

pub returns : goal.returns
returns c = converge
