use Rattle.sg_redo.proofs.Converging.{pages_converge, windows_meet}
use Rattle.sg_redo.proofs.laws.replay_converges.Goals as goal

pub returns : goal.returns
returns c = record { pages = pages_converge; windows = windows_meet }
