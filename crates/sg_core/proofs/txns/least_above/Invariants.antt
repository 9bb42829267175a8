use Rattle.std.proofs.Common.{◌≡◌, map}
use Rattle.sg_core.specs.Order.{least_number, is_above}
use Rattle.sg_core.specs.Slots.{shown, live_of}
use Rattle.sg_core.proofs.Order.{lesser_of}
use Rattle.sg_core.proofs.txns.least_above.Given as goal

-- the least of what was found and of those that are left is the least of all
abbrev pub invariant-loop-entry : goal.invariant-loop-entry
invariant-loop-entry l =
    (goal.iterator-loop-entry).can_next l.entry-iterator ×
    (goal.iterator-loop-entry).is_finite l.entry-iterator ×
    (lesser_of l.least (least_number (λ x. is_above l.bound x.transaction) (map (λ e. shown e.1) l.entry-iterator)) ≡ least_number (λ x. is_above l.bound x.transaction) (live_of l.live.slots))
