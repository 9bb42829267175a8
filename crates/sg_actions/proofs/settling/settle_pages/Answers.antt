use Rattle.std.proofs.Common.{ap, ◌∙◌, arith}
use Rattle.sg_alloc.specs.Flags.{free_of}
use Rattle.sg_alloc.proofs.Counted.{one_less}
use Rattle.sg_actions.proofs.Settled.{settling_one}
use Rattle.sg_actions.proofs.settling.settle_pages.Goals as goal

pub freed-smaller : goal.freed-smaller
freed-smaller c =
    let less = one_less c.freed.unfreed.pages c.take_page-p.result.0 c.take_page-p.ensures.least.free in
    let e = ap free_of c.take_page-p.ensures.pages in
    omega (arith, less, e)

pub freed-preserved : goal.freed-preserved
freed-preserved c = record {
  pages = settling_one c.args.maps.now.pages c.args.unfreed.now.pages c.freed.maps.pages c.freed.unfreed.pages c.free_page.new.self.pages c.take_page-p.new.self.pages c.take_page-p.result.0 c.freed.invariant.pages c.take_page-p.ensures.least.free c.take_page-p.ensures.pages c.free_page.ensures.pages;
  bands = c.free_page.ensures.bands ∙ c.freed.invariant.bands;
  unfreed = c.take_page-p.ensures.bands ∙ c.freed.invariant.unfreed;
}
