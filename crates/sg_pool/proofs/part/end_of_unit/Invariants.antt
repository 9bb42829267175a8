use Rattle.std.proofs.Common.{◌≡◌, ◌≤◌, ◌<◌, ◌-◌, ℕ, List, length, get_or}
use Rattle.sg_redo.specs.declared.place.Place.{Place}
use Rattle.sg_pool.proofs.part.end_of_unit.Given as goal

pub record IsRunOf (places : List Place) (unit from to : ℕ) : Type 0 where
  pub some : from < to
  pub within : to ≤ length places
  pub same : (k : ℕ) (d : Place) → from ≤ k → k < to → (get_or places k d).unit ≡ unit

abbrev pub invariant-places : goal.invariant-places
invariant-places l = IsRunOf l.places l.unit l.from l.to

abbrev pub decreases-places : goal.decreases-places
decreases-places l = length l.places - l.to
