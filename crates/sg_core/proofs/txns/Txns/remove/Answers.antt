use Rattle.std.proofs.Common.{ap, ◌∙◌}
use Rattle.sg_core.specs.Live.{without, is_live}
use Rattle.sg_core.specs.Slots.{live_of}
use Rattle.sg_core.specs.Order.{in_order}
use Rattle.sg_core.proofs.Kept.{remove_order, remove_keeps, part_fits, not_found}
use Rattle.sg_core.proofs.txns.Txns.remove.Goals as goal

pub overflow_sub-self : goal.overflow_sub-self
overflow_sub-self c =
    part_fits c.self.inside.live c.in-Some.key c.in-Some.entry c.self.inside.reserved c.in-Some.ensures.found.entry_is c.self.invariant

pub invariant_of-self : goal.invariant_of-self
invariant_of-self c =
    remove_keeps c.self.inside.live c.remove.new.self c.in-Some.key c.in-Some.entry c.in-Some.ensures.found.entry_is c.remove.ensures.slots c.self.inside.reserved c.self.invariant c.remove.ensures.capacity

pub returns-in-Some : goal.returns-in-Some
returns-in-Some c =
    let list = in_order (live_of c.self.inside.live.slots) in
    remove_order c.self.inside.live c.remove.new.self c.in-Some.key c.in-Some.entry c.in-Some.ensures.found.entry_is c.remove.ensures.slots c.self.invariant.distinct
    ∙ (ap (λ n. without n list) c.in-Some.ensures.found.number_is ∙ ap (without c.args.t.0) c.self.view_is)

pub returns-in_default : goal.returns-in_default
returns-in_default c =
    absurd (not_found c.self.inside.live c.args.t.0 c.in_default.ensures.absent (ap (λ xs. is_live xs c.args.t.0) c.self.view_is ∙ c.requires))
