use Rattle.std.proofs.Common.{◌≡◌, false, map, drop}
use Rattle.std.specs.List.{list_any}
use Rattle.sg_serial.specs.Locks.{hold_all, is_in_way}
use Rattle.sg_model.specs.Touches.{same_resource, conflict}
use Rattle.sg_model.specs.Resources.{shown_touch}
use Rattle.sg_locks.specs.Shown.{shown_hold}
use Rattle.sg_locks.proofs.table.Table.lock_all.Given as goal

-- what is still to be held comes to all, and nobody is in its way
abbrev pub invariant-loop-touch : goal.invariant-loop-touch
invariant-loop-touch l = record {
  held : hold_all same_resource l.t.0 (map shown_touch (drop l.touch-index l.wanted)) (map shown_hold l.self.holds.items) ≡ hold_all same_resource l.t.0 (map shown_touch l.wanted) (map shown_hold l.fn.self.holds.items);
  clear : list_any (is_in_way conflict l.t.0 (map shown_touch (drop l.touch-index l.wanted))) (map shown_hold l.self.holds.items) ≡ false;
}
