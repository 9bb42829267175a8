use Rattle.std.proofs.Common.{◌≡◌, map, take}
use Rattle.sg_locks.specs.Buckets.{resource_buckets, name_buckets}
use Rattle.sg_locks.specs.Shown.{shown_hold}
use Rattle.sg_locks.proofs.table.link_from.Given as goal

abbrev pub invariant-loop-i : goal.invariant-loop-i
invariant-loop-i l = record {
  resources : l.by_resource ≡ resource_buckets (map shown_hold (take l.i l.holds));
  names : l.by_name ≡ name_buckets (map shown_hold (take l.i l.holds));
}
