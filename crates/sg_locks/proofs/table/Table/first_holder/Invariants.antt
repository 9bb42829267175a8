use Rattle.std.proofs.Common.{◌≡◌, map, drop}
use Rattle.sg_serial.specs.Locks.{first_holder}
use Rattle.sg_model.specs.Touches.{conflict}
use Rattle.sg_model.specs.Resources.{shown_touch}
use Rattle.sg_locks.specs.Places.{lesser_of}
use Rattle.sg_locks.specs.Shown.{shown_hold}
use Rattle.sg_locks.proofs.table.Table.first_holder.Given as goal

abbrev pub invariant-loop-touch : goal.invariant-loop-touch
invariant-loop-touch l = lesser_of l.least (first_holder conflict l.t.0 (map shown_touch (drop l.touch-index l.wanted)) (map shown_hold l.self.holds.items)) ≡ first_holder conflict l.t.0 (map shown_touch l.wanted) (map shown_hold l.self.holds.items)
