use Rattle.std.proofs.Common.{ap, ◌∙◌, arith}
use Rattle.sg_alloc.specs.Flags.{free_of}
use Rattle.sg_alloc.proofs.Counted.{one_less}
use Rattle.sg_actions.proofs.Settled.{settling_one}
use Rattle.sg_actions.proofs.settling.settle_bands.Goals as goal

pub freed-smaller : goal.freed-smaller
freed-smaller c =
    let less = one_less c.freed.unfreed.bands c.take_band-b.result.0 c.take_band-b.ensures.least.free in
    let e = ap free_of c.take_band-b.ensures.bands in
    omega (arith, less, e)

pub freed-preserved : goal.freed-preserved
freed-preserved c = record {
  bands = settling_one c.args.maps.now.bands c.args.unfreed.now.bands c.freed.maps.bands c.freed.unfreed.bands c.free_band.new.self.bands c.take_band-b.new.self.bands c.take_band-b.result.0 c.freed.invariant.bands c.take_band-b.ensures.least.free c.take_band-b.ensures.bands c.free_band.ensures.bands;
  pages = c.free_band.ensures.pages ∙ c.freed.invariant.pages;
  unfreed = c.take_band-b.ensures.pages ∙ c.freed.invariant.unfreed;
}
