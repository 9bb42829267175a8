-- What is near the log's end stays near it.
use Rattle.std.proofs.Common.{ℕ, ◌≤◌, arith}
use Rattle.sg_space.specs.declared.space.SpaceFault.{SpaceFault}
use Rattle.sg_space.specs.declared.space.SpaceFault.TheVariants.{Disk, LogEnd}
use Rattle.sg_store.specs.Engine.{IsNearEnd}

pub near_later : (tail later : ℕ) (f : SpaceFault) → tail ≤ later → IsNearEnd tail f → IsNearEnd later f
near_later tail later Disk le h = tt
near_later tail later LogEnd le h = omega (arith, le, h)
