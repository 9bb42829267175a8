use Rattle.std.proofs.Common.{◌≡◌}
use Rattle.sg_found.proofs.Clearing.{AreFree}
use Rattle.sg_found.proofs.first.clear_pages.Given as goal

abbrev pub invariant-loop-p : goal.invariant-loop-p
invariant-loop-p l = record { free : AreFree l.maps.pages l.fn.pages l.p; bands : l.maps.bands ≡ l.fn.maps.bands }
