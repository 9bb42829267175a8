use Rattle.std.proofs.Common.{◌≡◌, true, false, sym, ap, subst, ◌∙◌, refl, arith}
use Rattle.sg_record.specs.Changes.{Change}
use Rattle.sg_record.specs.Ranges.{IsRecord}
use Rattle.sg_record.specs.Records.{Record}
use Rattle.sg_record.specs.Records.Says.{Changed}
use Rattle.sg_record.specs.Shown.{shown}
use Rattle.sg_actions.specs.Changes.{IsBrief}
use Rattle.sg_actions.proofs.Offing.{shown_is}
use Rattle.sg_actions.proofs.PuttingBack.{no_fault}
use Rattle.sg_actions.proofs.take_off.read_change.Goals as goal

same_changed : {a b : Change} → Changed a ≡ Changed b → a ≡ b
same_changed h = cc

pub returns-in_default-clause-none : goal.returns-in_default-clause-none
returns-in_default-clause-none c = λ change previous h. no_fault c.in_default.ensures.exact h.is

pub returns-in_default-change_in-clause-none : goal.returns-in_default-change_in-clause-none
returns-in_default-change_in-clause-none c = λ change previous h. c.in_default-change_in.ensures.none change (ap (λ (r : Record). r.says) (shown_is _ _ _ _ _ c.in-Ok.ensures.exact h.is) ∙ h.makes.says)

pub returns-then-prev-at-clause-none : goal.returns-then-prev-at-clause-none
returns-then-prev-at-clause-none c = λ change previous h.
    let same : c.in-Some.prev ≡ previous = sym c.in-Some.ensures.is.before_is ∙ (ap (λ (r : Record). r.previous) (shown_is _ _ _ _ _ c.in-Ok.ensures.exact h.is) ∙ h.makes.before_is) in
    let low = h.lower in
    let high = c.if-prev-at.true in
    omega (arith, same, low, high)

pub returns-then-not-is_brief-clause-none : goal.returns-then-not-is_brief-clause-none
returns-then-not-is_brief-clause-none c = λ change previous h.
    let what = shown_is _ _ _ _ _ c.in-Ok.ensures.exact h.is in
    let same = same_changed (sym c.in-Some.ensures.is.says ∙ (ap (λ (r : Record). r.says) what ∙ h.makes.says)) in
    let e : false ≡ true = c.if-not-is_brief.ensures.no (subst (λ (x : Change). IsBrief x) (sym same) (h.brief (subst (λ (r : Record). IsRecord r) what c.in-Ok.ensures.range))) in
    absurd cc

pub returns-clause-range : goal.returns-clause-range
returns-clause-range c = λ what size h. subst (λ (r : Record). IsRecord r) (shown_is _ _ _ _ _ c.in-Ok.ensures.exact h) c.in-Ok.ensures.range

pub returns-clause-reads : goal.returns-clause-reads
returns-clause-reads c = record { what = shown c.in-Ok.r; size = _; is = sym c.in-Ok.ensures.exact; makes = c.in-Some.ensures.is; lower = c.if-prev-at.false; brief = λ h. c.if-not-is_brief.ensures.yes refl }
