use Rattle.std.proofs.Common.{◌≡◌, length}
use Rattle.sg_alloc.specs.Flags.{free_of}
use Rattle.sg_actions.proofs.settling.forget_pages.Given as goal

abbrev pub invariant-freed : goal.invariant-freed
invariant-freed l = record { long : length l.unfreed.pages ≡ length l.fn.unfreed.pages; bands : l.unfreed.bands ≡ l.fn.unfreed.bands }

abbrev pub decreases-freed : goal.decreases-freed
decreases-freed l = free_of l.unfreed.pages
