use Rattle.std.proofs.Common.{◌-◌, length}
use Rattle.sg_pool.proofs.together.+repeat_from.Given as goal

-- the places that are left
abbrev pub decreases-repeat_from : goal.decreases-repeat_from
decreases-repeat_from g l = length l.places.now - l.from
