use Rattle.std.proofs.Common.{◌≡◌, map, drop}
use Rattle.std.specs.Prelude.{◌==◌}
use Rattle.std.specs.List.{list_all}
use Rattle.sg_locks.specs.Shown.{shown_hold}
use Rattle.sg_locks.proofs.table.are_its.Given as goal

abbrev pub invariant-loop-i : goal.invariant-loop-i
invariant-loop-i l = list_all (λ h. h.transaction == l.t.0) (map shown_hold (drop l.i l.holds)) ≡ list_all (λ h. h.transaction == l.t.0) (map shown_hold (drop l.first l.holds))
