use Rattle.sg_redo.proofs.Versions.{version_repeats}
use Rattle.sg_redo.proofs.laws.versions_repeat.Goals as goal

pub returns : goal.returns
returns c = λ k rs first sets rises fit. version_repeats k 1 rs first sets rises fit
