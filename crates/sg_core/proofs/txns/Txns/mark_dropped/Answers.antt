use Rattle.std.proofs.Common.{sym, ap, ◌∙◌, refl, arith, true}
use Rattle.sg_core.specs.Live.{is_live, dropping, a_dropper}
use Rattle.sg_core.specs.Slots.{live_of, kept_marks}
use Rattle.sg_core.specs.Order.{in_order}
use Rattle.sg_core.proofs.Kept.{change_order, change_keeps, not_found}
use Rattle.sg_core.proofs.txns.Txns.mark_dropped.Goals as goal

pub invariant_of-self : goal.invariant_of-self
invariant_of-self c =
    change_keeps c.self.inside.live c.put.new.live c.in-Some.key c.in-Some.entry (record { transaction = c.args.t; reserved = c.in-Some.entry.reserved; dropped = true; marks = c.in-Some.entry.marks }) a_dropper
    c.in-Some.ensures.found.entry_is c.put.ensures (ap (λ n. a_dropper (record { transaction = n; reserved = c.in-Some.entry.reserved; dropped = c.in-Some.entry.dropped; marks = kept_marks c.in-Some.entry.marks })) (sym c.in-Some.ensures.found.number_is)) (λ x. refl)
    c.self.inside.reserved _ c.self.invariant (omega arith)

pub returns-in-Some : goal.returns-in-Some
returns-in-Some c =
    let list = in_order (live_of c.self.inside.live.slots) in
    change_order c.self.inside.live c.put.new.live c.in-Some.key c.in-Some.entry (record { transaction = c.args.t; reserved = c.in-Some.entry.reserved; dropped = true; marks = c.in-Some.entry.marks }) a_dropper
    c.in-Some.ensures.found.entry_is c.put.ensures (ap (λ n. a_dropper (record { transaction = n; reserved = c.in-Some.entry.reserved; dropped = c.in-Some.entry.dropped; marks = kept_marks c.in-Some.entry.marks })) (sym c.in-Some.ensures.found.number_is)) (λ x. refl) c.self.invariant.distinct
    ∙ (ap (λ n. dropping n list) c.in-Some.ensures.found.number_is ∙ ap (dropping c.args.t.0) c.self.view_is)

pub returns-in_default : goal.returns-in_default
returns-in_default c =
    absurd (not_found c.self.inside.live c.args.t.0 c.in_default.ensures.absent (ap (λ xs. is_live xs c.args.t.0) c.self.view_is ∙ c.requires))
