use Rattle.std.proofs.Common.{◌≢◌, ◌<◌, ℕ, get_or}
use Rattle.sg_gate.proofs.header.is_among.Given as goal

abbrev pub invariant-all : goal.invariant-all
invariant-all l = (j : ℕ) → j < l.k → get_or l.numbers j 0 ≢ l.number
