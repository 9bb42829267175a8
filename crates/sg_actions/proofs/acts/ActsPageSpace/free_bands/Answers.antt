use Rattle.std.proofs.Common.{arith}
use Rattle.sg_actions.proofs.Freeing.{few_free}
use Rattle.sg_actions.proofs.acts.ActsPageSpace.free_bands.Goals as goal

pub overflow_add-result : goal.overflow_add-result
overflow_add-result g c = let few = few_free c.args.self.now.maps.bands c.args.self.now.unfreed.bands c.args.self.now.band_flags in omega (arith, few, c.free_bands.ensures, c.free_bands-2.ensures)
