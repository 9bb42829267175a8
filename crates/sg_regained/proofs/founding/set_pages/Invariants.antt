use Rattle.std.proofs.Common.{◌≡◌}
use Rattle.sg_space.proofs.Firsts.{AreTaken}
use Rattle.sg_regained.proofs.founding.set_pages.Given as goal

abbrev pub invariant-loop-p : goal.invariant-loop-p
invariant-loop-p l = record { pages : AreTaken l.fn.maps.pages l.maps.pages l.p; bands : l.maps.bands ≡ l.fn.maps.bands }
