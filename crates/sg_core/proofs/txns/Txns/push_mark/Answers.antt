use Rattle.std.proofs.Common.{◌≡◌, ◌+◌, ◌<◌, ◌++◌, ◌∷◌, [], List, ℕ, length, sym, ap, ◌∙◌, refl, arith}
use Rattle.sg_core.specs.Live.{is_live, marks_of, remarking, with_marks}
use Rattle.sg_core.specs.Slots.{live_of, kept_marks}
use Rattle.sg_core.specs.Order.{in_order}
use Rattle.sg_core.proofs.Kept.{change_order, change_keeps, not_found, marks_here, remarked}
use Rattle.sg_core.proofs.txns.Txns.push_mark.Goals as goal

pub returns-in_default-clause-marks : goal.returns-in_default-clause-marks
returns-in_default-clause-marks c =
    absurd (not_found c.self.inside.live c.args.t.0 c.in_default.ensures.absent (ap (λ xs. is_live xs c.args.t.0) c.self.view_is ∙ c.requires.live))

pub returns-in_default-clause-number : goal.returns-in_default-clause-number
returns-in_default-clause-number c =
    absurd (not_found c.self.inside.live c.args.t.0 c.in_default.ensures.absent (ap (λ xs. is_live xs c.args.t.0) c.self.view_is ∙ c.requires.live))

pub with-requires : goal.with-requires
with-requires c =
    let here = marks_here c.self.inside.live c.args.t.0 c.in-Some.key c.in-Some.entry c.in-Some.ensures.found c.self.invariant.distinct in
    let same = ap (λ (ms : List ℕ). length ms) (sym here ∙ ap (λ xs. marks_of xs c.args.t.0) c.self.view_is) in
    omega (arith, same, c.requires.room)

pub invariant_of-self : goal.invariant_of-self
invariant_of-self c =
    change_keeps c.self.inside.live c.put.new.live c.in-Some.key c.in-Some.entry (record { transaction = c.args.t; reserved = c.in-Some.entry.reserved; dropped = c.in-Some.entry.dropped; marks = c.with.result }) (with_marks (λ ms. ms ++ c.args.at ∷ []))
    c.in-Some.ensures.found.entry_is c.put.ensures (remarked c.in-Some.entry _ c.args.t.0 (λ ms. ms ++ c.args.at ∷ []) c.in-Some.ensures.found.number_is refl refl refl c.with.ensures) (λ x. refl)
    c.self.inside.reserved _ c.self.invariant (omega arith)

pub returns-clause-marks : goal.returns-clause-marks
returns-clause-marks c =
    let list = in_order (live_of c.self.inside.live.slots) in
    change_order c.self.inside.live c.put.new.live c.in-Some.key c.in-Some.entry (record { transaction = c.args.t; reserved = c.in-Some.entry.reserved; dropped = c.in-Some.entry.dropped; marks = c.with.result }) (with_marks (λ ms. ms ++ c.args.at ∷ []))
    c.in-Some.ensures.found.entry_is c.put.ensures (remarked c.in-Some.entry _ c.args.t.0 (λ ms. ms ++ c.args.at ∷ []) c.in-Some.ensures.found.number_is refl refl refl c.with.ensures) (λ x. refl) c.self.invariant.distinct
    ∙ (ap (λ n. remarking n (λ ms. ms ++ c.args.at ∷ []) list) c.in-Some.ensures.found.number_is ∙ ap (remarking c.args.t.0 (λ ms. ms ++ c.args.at ∷ [])) c.self.view_is)

pub returns-clause-number : goal.returns-clause-number
returns-clause-number c =
    let here = marks_here c.self.inside.live c.args.t.0 c.in-Some.key c.in-Some.entry c.in-Some.ensures.found c.self.invariant.distinct in
    let same = ap (λ (ms : List ℕ). length ms) (sym here ∙ ap (λ xs. marks_of xs c.args.t.0) c.self.view_is) in
    omega (arith, same, c.len.ensures)
