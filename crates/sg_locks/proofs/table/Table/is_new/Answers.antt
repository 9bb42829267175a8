use Rattle.std.proofs.Common.{not, map, sym, ap, ◌∙◌}
use Rattle.std.specs.Prelude.{◌||◌}
use Rattle.std.specs.List.{list_any}
use Rattle.std.specs.Option.{is_some}
use Rattle.sg_serial.specs.Locks.{is_pair}
use Rattle.sg_model.specs.Touches.{same_resource}
use Rattle.sg_model.specs.Resources.{shown_resource, shown_touch}
use Rattle.sg_locks.specs.Shown.{shown_hold}
use Rattle.sg_locks.proofs.Places.{any_placed}
use Rattle.sg_locks.proofs.table.Table.is_new.Goals as goal

pub returns-then-is_none : goal.returns-then-is_none
returns-then-is_none c =
    let held = sym (any_placed (is_pair same_resource c.args.t.0 (shown_resource c.args.what.now)) (map shown_hold c.args.self.now.holds.items)) ∙ (ap is_some (sym c.spot-spot.ensures.place) ∙ (c.is_none.ensures ∙ ap not c.if-is_none.true)) in
    ap not c.is_among.ensures ∙ ap (λ b. not (b || list_any (λ o. same_resource o.what (shown_resource c.args.what.now)) (map shown_touch c.args.before.now))) (sym held)

pub returns-else-is_none : goal.returns-else-is_none
returns-else-is_none c =
    let held = sym (any_placed (is_pair same_resource c.args.t.0 (shown_resource c.args.what.now)) (map shown_hold c.args.self.now.holds.items)) ∙ (ap is_some (sym c.spot-spot.ensures.place) ∙ (c.is_none.ensures ∙ ap not c.if-is_none.false)) in
    c.if-is_none.false ∙ ap (λ b. not (b || list_any (λ o. same_resource o.what (shown_resource c.args.what.now)) (map shown_touch c.args.before.now))) (sym held)
