use Rattle.std.proofs.Common.{◌≡◌, length}
use Rattle.sg_alloc.specs.Flags.{free_of}
use Rattle.sg_actions.proofs.settling.forget_bands.Given as goal

abbrev pub invariant-freed : goal.invariant-freed
invariant-freed l = record { long : length l.unfreed.bands ≡ length l.fn.unfreed.bands; pages : l.unfreed.pages ≡ l.fn.unfreed.pages }

abbrev pub decreases-freed : goal.decreases-freed
decreases-freed l = free_of l.unfreed.bands
