use Rattle.std.proofs.Common.{sym, ap, ◌∙◌, ◌+◌, refl, arith}
use Rattle.sg_core.specs.Live.{is_live, reserving, one_more}
use Rattle.sg_core.specs.Slots.{live_of, kept_marks}
use Rattle.sg_core.specs.Order.{in_order}
use Rattle.sg_core.proofs.Order.{ordered_sum}
use Rattle.sg_core.proofs.Slots.{sum_of}
use Rattle.sg_core.proofs.Kept.{change_order, change_keeps, part_fits, not_found}
use Rattle.sg_core.proofs.txns.Txns.reserve.Goals as goal

pub overflow_add-entry : goal.overflow_add-entry
overflow_add-entry c =
    let a = ordered_sum (λ x. x.reserved) (live_of c.self.inside.live.slots) in let v = ap sum_of c.self.view_is in
    let part = part_fits c.self.inside.live c.in-Some.key c.in-Some.entry c.self.inside.reserved c.in-Some.ensures.found.entry_is c.self.invariant in
    omega (arith, a, v, part, c.self.invariant.total, c.requires.fits)

pub overflow_add-self : goal.overflow_add-self
overflow_add-self c =
    let a = ordered_sum (λ x. x.reserved) (live_of c.self.inside.live.slots) in let v = ap sum_of c.self.view_is in
    omega (arith, a, v, c.self.invariant.total, c.requires.fits)

pub invariant_of-self : goal.invariant_of-self
invariant_of-self c =
    change_keeps c.self.inside.live c.put.new.live c.in-Some.key c.in-Some.entry (record { transaction = c.args.t; reserved = c.in-Some.entry.reserved + 1; dropped = c.in-Some.entry.dropped; marks = c.in-Some.entry.marks }) one_more
    c.in-Some.ensures.found.entry_is c.put.ensures (ap (λ n. one_more (record { transaction = n; reserved = c.in-Some.entry.reserved; dropped = c.in-Some.entry.dropped; marks = kept_marks c.in-Some.entry.marks })) (sym c.in-Some.ensures.found.number_is)) (λ x. refl)
    c.self.inside.reserved _ c.self.invariant (omega arith)

pub returns-in-Some : goal.returns-in-Some
returns-in-Some c =
    let list = in_order (live_of c.self.inside.live.slots) in
    change_order c.self.inside.live c.put.new.live c.in-Some.key c.in-Some.entry (record { transaction = c.args.t; reserved = c.in-Some.entry.reserved + 1; dropped = c.in-Some.entry.dropped; marks = c.in-Some.entry.marks }) one_more
    c.in-Some.ensures.found.entry_is c.put.ensures (ap (λ n. one_more (record { transaction = n; reserved = c.in-Some.entry.reserved; dropped = c.in-Some.entry.dropped; marks = kept_marks c.in-Some.entry.marks })) (sym c.in-Some.ensures.found.number_is)) (λ x. refl) c.self.invariant.distinct
    ∙ (ap (λ n. reserving n list) c.in-Some.ensures.found.number_is ∙ ap (reserving c.args.t.0) c.self.view_is)

pub returns-in_default : goal.returns-in_default
returns-in_default c =
    absurd (not_found c.self.inside.live c.args.t.0 c.in_default.ensures.absent (ap (λ xs. is_live xs c.args.t.0) c.self.view_is ∙ c.requires.live))
