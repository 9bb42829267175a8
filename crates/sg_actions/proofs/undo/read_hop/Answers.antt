use Rattle.std.proofs.Common.{◌≡◌, Option, Some, None, sym, ap, subst, ◌∙◌, arith}
use Rattle.sg_record.specs.Ranges.{IsRecord}
use Rattle.sg_record.specs.Records.{Record}
use Rattle.sg_record.specs.Shown.{shown}
use Rattle.sg_actions.specs.Steps.{step_of}
use Rattle.sg_actions.specs.Undoing.{Hop, hop_in}
use Rattle.sg_actions.proofs.Offing.{shown_is}
use Rattle.sg_actions.proofs.PuttingBack.{no_fault}
use Rattle.sg_actions.proofs.undo.read_hop.Goals as goal

same_hop : {a b : Hop} → Some a ≡ Some b → a ≡ b
same_hop h = cc

pub returns-in_default-clause-none : goal.returns-in_default-clause-none
returns-in_default-clause-none c = λ hop h. no_fault c.in_default.ensures.exact h.is

pub returns-in_default-hop_at-clause-none : goal.returns-in_default-hop_at-clause-none
returns-in_default-hop_at-clause-none c = λ hop h.
    let e : (let o : Option Hop = None in o) ≡ Some hop = c.in_default-hop_at.ensures ∙ (ap (λ (r : Record). hop_in (step_of r)) (shown_is _ _ _ _ _ c.in-Ok.ensures.exact h.is) ∙ sym h.hops) in
    cc

pub returns-then-next-at-clause-none : goal.returns-then-next-at-clause-none
returns-then-next-at-clause-none c = λ hop h.
    let same = ap (λ (x : Hop). x.1) (same_hop (c.in-Some.ensures ∙ (ap (λ (r : Record). hop_in (step_of r)) (shown_is _ _ _ _ _ c.in-Ok.ensures.exact h.is) ∙ sym h.hops))) in
    let low = h.lower in
    let high = c.if-next-at.true in
    omega (arith, same, low, high)

pub returns-clause-range : goal.returns-clause-range
returns-clause-range c = λ what size h. subst (λ (r : Record). IsRecord r) (shown_is _ _ _ _ _ c.in-Ok.ensures.exact h) c.in-Ok.ensures.range

pub returns-clause-reads : goal.returns-clause-reads
returns-clause-reads c = record { what = shown c.in-Ok.r; size = _; is = sym c.in-Ok.ensures.exact; hops = c.in-Some.ensures; lower = c.if-next-at.false }
