use Rattle.std.proofs.Common.{◌≡◌, ℕ, map, take}
use Rattle.std.specs.Prelude.{◌&&◌}
use Rattle.sg_model.specs.Resources.{shown_touch}
use Rattle.sg_locks.specs.Chain.{is_on}
use Rattle.sg_locks.specs.Places.{last_place, blocks, lesser_of, least_of}
use Rattle.sg_locks.specs.Shown.{shown_hold}
use Rattle.sg_locks.proofs.Walks.{behind}
use Rattle.sg_locks.proofs.table.Table.least_along.Given as goal

-- those from a place on have been looked at
abbrev pub invariant-loop-at : goal.invariant-loop-at
invariant-loop-at l =
    (from : ℕ) × (l.at ≡ last_place (is_on l.chain) (map shown_hold (take from l.self.holds.items)))
    × (lesser_of l.least (least_of (λ h. is_on l.chain h && blocks l.t.0 (shown_touch l.touch) h) (map shown_hold (take from l.self.holds.items))) ≡ lesser_of l.initial.least (least_of (λ h. is_on l.chain h && blocks l.t.0 (shown_touch l.touch) h) (map shown_hold l.self.holds.items)))

abbrev pub decreases-loop-at : goal.decreases-loop-at
decreases-loop-at l = behind l.at
