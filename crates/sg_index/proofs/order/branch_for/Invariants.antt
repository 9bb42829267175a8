use Rattle.std.proofs.Common.{◌≡◌, ◌<◌, ◌-◌, drop, slice_index_or}
use Rattle.sg_index.specs.Order.{IsBelow}
use Rattle.sg_index.specs.Change.{way_from, way}
use Rattle.sg_index.specs.declared.item.Item.{Item as Listed}
use Rattle.sg_index.proofs.order.branch_for.Given as goal

abbrev pub invariant-items : goal.invariant-items
invariant-items l = record {
  left : (d : Listed) → 1 < l.i → IsBelow l.key (slice_index_or l.items (l.i - 1) d).key → ⊥;
  way : (d : Listed) → way_from (slice_index_or l.items (l.i - 1) d).child (drop l.i l.items) l.key ≡ way l.items l.key;
}
