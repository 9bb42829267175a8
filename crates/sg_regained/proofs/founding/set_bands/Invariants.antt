use Rattle.std.proofs.Common.{◌≡◌}
use Rattle.sg_space.proofs.Firsts.{AreTaken}
use Rattle.sg_regained.proofs.founding.set_bands.Given as goal

abbrev pub invariant-loop-b : goal.invariant-loop-b
invariant-loop-b l = record { bands : AreTaken l.fn.maps.bands l.maps.bands l.b; pages : l.maps.pages ≡ l.fn.maps.pages }
