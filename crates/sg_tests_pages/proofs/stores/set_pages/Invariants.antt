use Rattle.std.proofs.Common.{◌≡◌, length}
use Rattle.sg_alloc.specs.Flags.{free_of}
use Rattle.sg_tests_pages.proofs.stores.set_pages.Given as goal

abbrev pub invariant-free : goal.invariant-free
invariant-free l = record { long : length l.maps.pages ≡ length l.fn.maps.pages; bands : l.maps.bands ≡ l.fn.maps.bands }

abbrev pub decreases-free : goal.decreases-free
decreases-free l = free_of l.maps.pages
