use Rattle.std.proofs.Common.{◌≡◌, map, drop}
use Rattle.sg_model.specs.Resources.{shown_touch}
use Rattle.sg_locks.specs.Shown.{shown_hold}
use Rattle.sg_locks.proofs.Held.{AreAnsweredAlike}
use Rattle.sg_locks.proofs.table.Table.try_lock.Given as goal

abbrev pub invariant-loop-i : goal.invariant-loop-i
invariant-loop-i l = record {
  same : map shown_hold l.self.holds.items ≡ map shown_hold l.fn.self.holds.items;
  alike : AreAnsweredAlike l.t.0 (map shown_touch (drop l.i l.wanted)) (map shown_touch l.wanted) (map shown_hold l.self.holds.items);
}
