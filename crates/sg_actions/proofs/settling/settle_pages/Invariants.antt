use Rattle.std.proofs.Common.{◌≡◌}
use Rattle.sg_alloc.specs.Flags.{free_of}
use Rattle.sg_actions.proofs.Settled.{AreSettling}
use Rattle.sg_actions.proofs.settling.settle_pages.Given as goal

abbrev pub invariant-freed : goal.invariant-freed
invariant-freed l = record { pages : AreSettling l.fn.maps.pages l.fn.unfreed.pages l.maps.pages l.unfreed.pages; bands : l.maps.bands ≡ l.fn.maps.bands; unfreed : l.unfreed.bands ≡ l.fn.unfreed.bands }

abbrev pub decreases-freed : goal.decreases-freed
decreases-freed l = free_of l.unfreed.pages
