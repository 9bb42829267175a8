use Rattle.std.proofs.Common.{true, ap, length, ◌∙◌, arith}
use Rattle.std.proofs.lemmas.List.{length-set}
use Rattle.sg_alloc.specs.Flags.{free_of}
use Rattle.sg_alloc.proofs.Counted.{one_less}
use Rattle.sg_tests_pages.proofs.stores.set_pages.Goals as goal

pub free-smaller : goal.free-smaller
free-smaller c =
    let less = one_less c.free.maps.pages c.take_page.result.0 c.take_page.ensures.least.free in
    let e = ap free_of c.take_page.ensures.pages in
    omega (arith, less, e)

pub free-preserved : goal.free-preserved
free-preserved c = record {
  long = ap length c.take_page.ensures.pages ∙ (length-set c.free.maps.pages c.take_page.result.0 true ∙ c.free.invariant.long);
  bands = c.take_page.ensures.bands ∙ c.free.invariant.bands;
}
