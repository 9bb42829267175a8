use Rattle.std.proofs.Common.{◌≡◌, ◌+◌}
use Rattle.sg_redo.proofs.replaying.tick_all.Given as goal

-- a step each
abbrev pub invariant-steps : goal.invariant-steps
invariant-steps g l = l.steps ≡ l.initial.steps + l._step
