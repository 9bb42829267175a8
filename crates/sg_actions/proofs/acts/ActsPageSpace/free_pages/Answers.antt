use Rattle.std.proofs.Common.{arith}
use Rattle.sg_actions.proofs.Freeing.{few_free}
use Rattle.sg_actions.proofs.acts.ActsPageSpace.free_pages.Goals as goal

pub overflow_add-result : goal.overflow_add-result
overflow_add-result g c = let few = few_free c.args.self.now.maps.pages c.args.self.now.unfreed.pages c.args.self.now.page_flags in omega (arith, few, c.free_pages.ensures, c.free_pages-2.ensures)
