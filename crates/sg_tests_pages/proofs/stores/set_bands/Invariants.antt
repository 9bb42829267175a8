use Rattle.std.proofs.Common.{◌≡◌, length}
use Rattle.sg_alloc.specs.Flags.{free_of}
use Rattle.sg_tests_pages.proofs.stores.set_bands.Given as goal

abbrev pub invariant-free : goal.invariant-free
invariant-free l = record { long : length l.maps.bands ≡ length l.fn.maps.bands; pages : l.maps.pages ≡ l.fn.maps.pages }

abbrev pub decreases-free : goal.decreases-free
decreases-free l = free_of l.maps.bands
