use Rattle.std.proofs.Common.{sym, ap, ◌∙◌, refl, arith, take}
use Rattle.sg_core.specs.Live.{is_live, remarking, with_marks}
use Rattle.sg_core.specs.Slots.{live_of}
use Rattle.sg_core.specs.Order.{in_order}
use Rattle.sg_core.proofs.Kept.{change_order, change_keeps, not_found, remarked}
use Rattle.sg_core.proofs.txns.Txns.cut_marks.Goals as goal

pub invariant_of-self : goal.invariant_of-self
invariant_of-self c =
    change_keeps c.self.inside.live c.put.new.live c.in-Some.key c.in-Some.entry (record { transaction = c.args.t; reserved = c.in-Some.entry.reserved; dropped = c.in-Some.entry.dropped; marks = c.first.result }) (with_marks (λ ms. take c.args.count ms))
    c.in-Some.ensures.found.entry_is c.put.ensures (remarked c.in-Some.entry _ c.args.t.0 (λ ms. take c.args.count ms) c.in-Some.ensures.found.number_is refl refl refl c.first.ensures) (λ x. refl)
    c.self.inside.reserved _ c.self.invariant (omega arith)

pub returns-in-Some : goal.returns-in-Some
returns-in-Some c =
    let list = in_order (live_of c.self.inside.live.slots) in
    change_order c.self.inside.live c.put.new.live c.in-Some.key c.in-Some.entry (record { transaction = c.args.t; reserved = c.in-Some.entry.reserved; dropped = c.in-Some.entry.dropped; marks = c.first.result }) (with_marks (λ ms. take c.args.count ms))
    c.in-Some.ensures.found.entry_is c.put.ensures (remarked c.in-Some.entry _ c.args.t.0 (λ ms. take c.args.count ms) c.in-Some.ensures.found.number_is refl refl refl c.first.ensures) (λ x. refl) c.self.invariant.distinct
    ∙ (ap (λ n. remarking n (λ ms. take c.args.count ms) list) c.in-Some.ensures.found.number_is ∙ ap (remarking c.args.t.0 (λ ms. take c.args.count ms)) c.self.view_is)

pub returns-in_default : goal.returns-in_default
returns-in_default c =
    absurd (not_found c.self.inside.live c.args.t.0 c.in_default.ensures.absent (ap (λ xs. is_live xs c.args.t.0) c.self.view_is ∙ c.requires))
