use Rattle.std.proofs.Common.{true, ap, length, ◌∙◌, arith}
use Rattle.std.proofs.lemmas.List.{length-set}
use Rattle.sg_alloc.specs.Flags.{free_of}
use Rattle.sg_alloc.proofs.Counted.{one_less}
use Rattle.sg_actions.proofs.settling.forget_pages.Goals as goal

pub freed-smaller : goal.freed-smaller
freed-smaller c =
    let less = one_less c.freed.unfreed.pages c.take_page.result.0 c.take_page.ensures.least.free in
    let e = ap free_of c.take_page.ensures.pages in
    omega (arith, less, e)

pub freed-preserved : goal.freed-preserved
freed-preserved c = record {
  long = ap length c.take_page.ensures.pages ∙ (length-set c.freed.unfreed.pages c.take_page.result.0 true ∙ c.freed.invariant.long);
  bands = c.take_page.ensures.bands ∙ c.freed.invariant.bands;
}
