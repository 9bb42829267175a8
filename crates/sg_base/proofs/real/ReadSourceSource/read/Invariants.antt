use Rattle.std.proofs.Common.{◌≡◌}
use Rattle.std.specs.Io.KnownBytes.{Keeps}
use Rattle.sg_base.proofs.real.ReadSourceSource.read.Given as goal

-- no call has failed yet, and none has taken a byte
abbrev pub invariant-loop : goal.invariant-loop
invariant-loop g l = (l.self.faults ≡ l.fn.self.faults) × Keeps (g.R.Read.remaining l.fn.self.inner) (g.R.Read.remaining l.self.inner)
