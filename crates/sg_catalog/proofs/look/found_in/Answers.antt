use Rattle.std.proofs.Common.{List, ℕ, Option, arith, ap, sym, refl, ◌∙◌}
use Rattle.sg_base.specs.Page.{slots_of}
use Rattle.sg_catalog.specs.Look.{fits, row_in}
use Rattle.sg_catalog.proofs.Pages.{none_empty, none_other, first_here}
use Rattle.sg_catalog.proofs.look.found_in.Goals as goal

pub loop-slot-preserved-in_default : goal.loop-slot-preserved-in_default
loop-slot-preserved-in_default c =
    none_empty (fits c.args.wanted.now) (slots_of c.args.view.now.page.now) c.loop-slot.slot (omega arith) c.loop-slot.invariant
    (ap (λ (o : Option (List ℕ)). row_in o) (sym c.in_default.ensures))

pub returns-then-fits : goal.returns-then-fits
returns-then-fits c =
    let at = ap (λ (o : Option (List ℕ)). row_in o) (sym c.in-Some.ensures) ∙ sym c.in-Some-row_in.ensures in
    record {
      page_is = refl;
      at = at;
      first = first_here (fits c.args.wanted.now) (slots_of c.args.view.now.page.now) c.loop-slot.slot (omega arith) c.loop-slot.invariant c.in-Some-row_in.row at (sym c.fits.ensures ∙ c.if-fits.true);
    }

pub loop-slot-preserved : goal.loop-slot-preserved
loop-slot-preserved c =
    none_other (fits c.args.wanted.now) (slots_of c.args.view.now.page.now) c.loop-slot.slot (omega arith) c.loop-slot.invariant c.in-Some-row_in.row
    (ap (λ (o : Option (List ℕ)). row_in o) (sym c.in-Some.ensures) ∙ sym c.in-Some-row_in.ensures) (sym c.fits.ensures ∙ c.if-fits.false)
