-- What an engine over a disk that tells nothing is: it never tells.
use Rattle.std.proofs.Common.{Bool, false, IsTrue}
use Rattle.sg_phys.specs.Phys.{IsGiven, Tells}

pub no : IsTrue false → ⊥
no e = cc

pub untold : {presumed : Type 0} {failed : Bool} → Tells (IsGiven false presumed) failed → ⊥
untold t = no t.tells.0
