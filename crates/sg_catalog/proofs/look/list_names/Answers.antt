use Rattle.std.proofs.Common.{List, ℕ, Option, not, arith, ap, sym, ◌∙◌}
use Rattle.sg_base.specs.Page.{slots_of}
use Rattle.sg_catalog.specs.Look.{row_in}
use Rattle.sg_catalog.proofs.Pages.{names_empty, names_tomb, names_object}
use Rattle.sg_catalog.proofs.look.list_names.Goals as goal

pub loop-slot-preserved-in_default : goal.loop-slot-preserved-in_default
loop-slot-preserved-in_default c =
    names_empty (slots_of c.args.view.now.page.now) c.loop-slot.slot (omega arith) _ _ c.loop-slot.invariant (ap (λ (o : Option (List ℕ)). row_in o) (sym c.in_default.ensures))

pub loop-slot-preserved-then-is_some : goal.loop-slot-preserved-then-is_some
loop-slot-preserved-then-is_some c =
    names_tomb (slots_of c.args.view.now.page.now) c.loop-slot.slot (omega arith) _ _ c.loop-slot.invariant c.in-Some-row_in.row
    (ap (λ (o : Option (List ℕ)). row_in o) (sym c.in-Some.ensures) ∙ sym c.in-Some-row_in.ensures) (ap not (sym c.is_some.ensures ∙ c.if-is_some.true))

pub loop-slot-preserved : goal.loop-slot-preserved
loop-slot-preserved c =
    names_object (slots_of c.args.view.now.page.now) c.loop-slot.slot (omega arith) _ _ c.loop-slot.invariant c.in-Some-row_in.row _
    (ap (λ (o : Option (List ℕ)). row_in o) (sym c.in-Some.ensures) ∙ sym c.in-Some-row_in.ensures) (ap not (sym c.is_some.ensures ∙ c.if-is_some.false)) c.in-Ok.ensures
