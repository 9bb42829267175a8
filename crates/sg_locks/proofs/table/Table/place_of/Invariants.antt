use Rattle.std.proofs.Common.{◌≡◌, ℕ, map, take}
use Rattle.std.specs.Option.{option_or}
use Rattle.sg_serial.specs.Locks.{is_pair}
use Rattle.sg_model.specs.Touches.{same_resource}
use Rattle.sg_model.specs.Resources.{shown_resource}
use Rattle.sg_locks.specs.declared.table.Chain.TheVariants as chains
use Rattle.sg_locks.specs.Chain.{is_on}
use Rattle.sg_locks.specs.Places.{first_place, last_place}
use Rattle.sg_locks.specs.Shown.{shown_hold}
use Rattle.sg_locks.proofs.Walks.{behind}
use Rattle.sg_locks.proofs.table.Table.place_of.Given as goal

-- those from a place on have been looked at
abbrev pub invariant-loop-at : goal.invariant-loop-at
invariant-loop-at l =
    (from : ℕ) × (l.at ≡ last_place (is_on (chains.Resource l.bucket)) (map shown_hold (take from l.self.holds.items)))
    × (option_or (first_place (is_pair same_resource l.t.0 (shown_resource l.what)) (map shown_hold (take from l.self.holds.items))) l.found ≡ first_place (is_pair same_resource l.t.0 (shown_resource l.what)) (map shown_hold l.self.holds.items))

abbrev pub decreases-loop-at : goal.decreases-loop-at
decreases-loop-at l = behind l.at
