use Rattle.std.proofs.Common.{◌≡◌, None, map, take}
use Rattle.std.specs.Prelude.{◌==◌}
use Rattle.sg_locks.specs.Places.{first_place}
use Rattle.sg_locks.specs.Shown.{shown_hold}
use Rattle.sg_locks.proofs.table.first_hold.Given as goal

abbrev pub invariant-loop-place : goal.invariant-loop-place
invariant-loop-place l = first_place (λ h. h.transaction == l.t.0) (map shown_hold (take l.place l.holds)) ≡ None
