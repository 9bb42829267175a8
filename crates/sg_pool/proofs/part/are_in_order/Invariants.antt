use Rattle.std.proofs.Common.{◌<◌, ◌+◌, ℕ, get_or}
use Rattle.sg_redo.specs.declared.place.Place.{Place}
use Rattle.sg_pool.proofs.part.are_in_order.Given as goal

-- the numbers before this place rise
abbrev pub invariant-places : goal.invariant-places
invariant-places l = (i : ℕ) (d : Place) → i + 1 < l.k → (get_or l.places i d).lsn < (get_or l.places (i + 1) d).lsn
