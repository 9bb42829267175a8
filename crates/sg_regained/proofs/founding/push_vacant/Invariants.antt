use Rattle.std.proofs.Common.{◌≡◌, ◌++◌, ℕ, length}
use Rattle.std.specs.Prelude.{replicate}
use Rattle.sg_actions.specs.Ending.{vacant}
use Rattle.sg_regained.proofs.founding.push_vacant.Given as goal

-- some vacant rows stand behind those that were there
abbrev pub invariant-rest : goal.invariant-rest
invariant-rest l = (n : ℕ) × (l.rows.items ≡ l.fn.rows.items ++ replicate n vacant) × (length l.rows.items ≡ l._at)
