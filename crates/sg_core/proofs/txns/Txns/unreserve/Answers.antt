use Rattle.std.proofs.Common.{ℕ, ◌≡◌, ◌-◌, sym, ap, ◌∙◌, refl, arith}
use Rattle.sg_core.specs.Live.{is_live, unreserving, one_less}
use Rattle.sg_core.specs.Slots.{live_of, shown, kept_marks}
use Rattle.sg_core.specs.Order.{in_order}
use Rattle.sg_core.proofs.Kept.{change_order, change_keeps, part_fits, not_found, one_given}
use Rattle.sg_core.proofs.txns.Txns.unreserve.Goals as goal

pub overflow_sub-self : goal.overflow_sub-self
overflow_sub-self c =
    let part = part_fits c.self.inside.live c.in-Some.key c.in-Some.entry c.self.inside.reserved c.in-Some.ensures.found.entry_is c.self.invariant in
    omega (arith, part, c.one_of-given.ensures.few)

pub invariant_of-self : goal.invariant_of-self
invariant_of-self c =
    let part = part_fits c.self.inside.live c.in-Some.key c.in-Some.entry c.self.inside.reserved c.in-Some.ensures.found.entry_is c.self.invariant in
    change_keeps c.self.inside.live c.put.new.live c.in-Some.key c.in-Some.entry (record { transaction = c.args.t; reserved = c.in-Some.entry.reserved - c.one_of-given.result; dropped = c.in-Some.entry.dropped; marks = c.in-Some.entry.marks }) one_less
    c.in-Some.ensures.found.entry_is c.put.ensures (one_given c.in-Some.entry _ c.args.t.0 c.in-Some.ensures.found.number_is refl c.one_of-given.ensures.rest refl refl) (λ x. refl)
    c.self.inside.reserved _ c.self.invariant (omega (arith, part, c.one_of-given.ensures.few))

pub returns-in-Some : goal.returns-in-Some
returns-in-Some c =
    let list = in_order (live_of c.self.inside.live.slots) in
    change_order c.self.inside.live c.put.new.live c.in-Some.key c.in-Some.entry (record { transaction = c.args.t; reserved = c.in-Some.entry.reserved - c.one_of-given.result; dropped = c.in-Some.entry.dropped; marks = c.in-Some.entry.marks }) one_less
    c.in-Some.ensures.found.entry_is c.put.ensures (one_given c.in-Some.entry _ c.args.t.0 c.in-Some.ensures.found.number_is refl c.one_of-given.ensures.rest refl refl) (λ x. refl) c.self.invariant.distinct
    ∙ (ap (λ n. unreserving n list) c.in-Some.ensures.found.number_is ∙ ap (unreserving c.args.t.0) c.self.view_is)

pub returns-in_default : goal.returns-in_default
returns-in_default c =
    absurd (not_found c.self.inside.live c.args.t.0 c.in_default.ensures.absent (ap (λ xs. is_live xs c.args.t.0) c.self.view_is ∙ c.requires))
