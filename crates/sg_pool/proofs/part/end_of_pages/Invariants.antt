use Rattle.std.proofs.Common.{◌-◌, length}
use Rattle.sg_pool.proofs.Grouped.{IsFront}
use Rattle.sg_pool.proofs.part.end_of_pages.Given as goal

-- so many pages' places
abbrev pub invariant-pages : goal.invariant-pages
invariant-pages l = IsFront l.places l.pages l.from l.to

abbrev pub decreases-pages : goal.decreases-pages
decreases-pages l = length l.places - l.to
