use Rattle.std.proofs.Common.{◌≡◌, ◌+◌, take, sum_by}
use Rattle.sg_redo.proofs.threads.tick_places.Given as goal

-- a step for each place of the units before this one
abbrev pub invariant-units : goal.invariant-units
invariant-units g l = l.steps ≡ l.initial.steps + sum_by (λ u. u.count) (take l.i l.units)
