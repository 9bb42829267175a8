use Rattle.sg_kept.proofs.Kept.{log_kept}
use Rattle.sg_kept.proofs.laws.kept_is_formed.Goals as goal

pub returns : goal.returns
returns g c = λ base p kept gone le some parted at is. log_kept base p kept gone le some parted at is
