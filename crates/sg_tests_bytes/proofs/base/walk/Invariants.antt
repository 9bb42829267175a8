use Rattle.std.proofs.Common.{◌≡◌, ◌+◌}
use Rattle.sg_tests_bytes.proofs.base.walk.Given as goal

abbrev pub invariant-loop : goal.invariant-loop
invariant-loop g l = l.steps ≡ l.fn.steps + l.counter
