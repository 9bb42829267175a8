use Rattle.std.proofs.Common.{◌≡◌, ◌-◌, ◌≤◌, None, vec_capacity, vec_len}
use Rattle.std.specs.Prelude.{replicate}
use Rattle.sg_locks.proofs.chains.no_places.Given as goal

abbrev pub invariant-loop-last : goal.invariant-loop-last
invariant-loop-last l = record { room : 4096 ≤ vec_capacity l.last; few : vec_len l.last ≤ 4096; none : l.last.items ≡ replicate (vec_len l.last) None }

abbrev pub decreases-loop-last : goal.decreases-loop-last
decreases-loop-last l = 4096 - vec_len l.last
