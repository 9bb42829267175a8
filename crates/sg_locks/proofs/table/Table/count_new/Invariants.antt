use Rattle.std.proofs.Common.{◌≡◌, ◌+◌, ◌≤◌, map, take, length}
use Rattle.sg_serial.specs.Locks.{hold_all}
use Rattle.sg_model.specs.Touches.{same_resource}
use Rattle.sg_model.specs.Resources.{shown_touch}
use Rattle.sg_locks.specs.Shown.{shown_hold}
use Rattle.sg_locks.proofs.table.Table.count_new.Given as goal

abbrev pub invariant-loop-i : goal.invariant-loop-i
invariant-loop-i l = record {
  counted : l.count + length l.self.holds.items ≡ length (hold_all same_resource l.t.0 (map shown_touch (take l.i l.wanted)) (map shown_hold l.self.holds.items));
  few : l.count ≤ l.i;
}
