use Rattle.std.proofs.Common.{◌≡◌}
use Rattle.sg_found.proofs.Clearing.{AreFree}
use Rattle.sg_found.proofs.first.clear_bands.Given as goal

abbrev pub invariant-loop-b : goal.invariant-loop-b
invariant-loop-b l = record { free : AreFree l.maps.bands l.fn.bands l.b; pages : l.maps.pages ≡ l.fn.maps.pages }
