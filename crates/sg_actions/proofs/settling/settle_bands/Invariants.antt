use Rattle.std.proofs.Common.{◌≡◌}
use Rattle.sg_alloc.specs.Flags.{free_of}
use Rattle.sg_actions.proofs.Settled.{AreSettling}
use Rattle.sg_actions.proofs.settling.settle_bands.Given as goal

abbrev pub invariant-freed : goal.invariant-freed
invariant-freed l = record { bands : AreSettling l.fn.maps.bands l.fn.unfreed.bands l.maps.bands l.unfreed.bands; pages : l.maps.pages ≡ l.fn.maps.pages; unfreed : l.unfreed.pages ≡ l.fn.unfreed.pages }

abbrev pub decreases-freed : goal.decreases-freed
decreases-freed l = free_of l.unfreed.bands
