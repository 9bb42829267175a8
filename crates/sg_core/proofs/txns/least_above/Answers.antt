use Rattle.std.proofs.Common.{sym, ap, ◌∙◌, map}
use Rattle.sg_core.specs.Order.{least_number, is_above}
use Rattle.sg_core.specs.Slots.{shown}
use Rattle.sg_core.proofs.Order.{lesser_of, lesser_none, least_step}
use Rattle.sg_core.proofs.Slots.{live-entries}
use Rattle.sg_core.proofs.txns.least_above.Goals as goal

pub loop-entry-init : goal.loop-entry-init
loop-entry-init c =
    let left = c.into_iter-entry-iterator.ensures.into_iter_gives ∙ c.iter-entry-items.ensures.rest in (
      tt,
      tt,
      ap (λ es. least_number (λ x. is_above c.args.bound x.transaction) (map (λ e. shown e.1) es)) left ∙ ap (least_number (λ x. is_above c.args.bound x.transaction)) (live-entries 0 c.args.live.now.slots),
    )

pub loop-entry-preserved : goal.loop-entry-preserved
loop-entry-preserved c =
    let rest = least_number (λ x. is_above c.args.bound x.transaction) (map (λ e. shown e.1) c.next.new.self) in
    let n = c.in-Some.entry.now.transaction.0 in (
      tt,
      tt,
      ap (λ r. lesser_of r rest) c.least_with-least.ensures
          ∙ (least_step (is_above c.args.bound n) n c.loop-entry.least rest
          ∙ (sym (ap (λ es. lesser_of c.loop-entry.least (least_number (λ x. is_above c.args.bound x.transaction) (map (λ e. shown e.1) es))) c.in-Some.ensures.steps) ∙ c.loop-entry.invariant.2)),
    )

pub returns : goal.returns
returns c =
    sym (lesser_none c.loop-entry.least)
    ∙ (sym (ap (λ es. lesser_of c.loop-entry.least (least_number (λ x. is_above c.args.bound x.transaction) (map (λ e. shown e.1) es))) c.in-None.ensures.steps.0) ∙ c.loop-entry.invariant.2)
