use Rattle.std.proofs.Common.{true, ap, length, ◌∙◌, arith}
use Rattle.std.proofs.lemmas.List.{length-set}
use Rattle.sg_alloc.specs.Flags.{free_of}
use Rattle.sg_alloc.proofs.Counted.{one_less}
use Rattle.sg_tests_pages.proofs.stores.set_bands.Goals as goal

pub free-smaller : goal.free-smaller
free-smaller c =
    let less = one_less c.free.maps.bands c.take_band.result.0 c.take_band.ensures.least.free in
    let e = ap free_of c.take_band.ensures.bands in
    omega (arith, less, e)

pub free-preserved : goal.free-preserved
free-preserved c = record {
  long = ap length c.take_band.ensures.bands ∙ (length-set c.free.maps.bands c.take_band.result.0 true ∙ c.free.invariant.long);
  pages = c.take_band.ensures.pages ∙ c.free.invariant.pages;
}
