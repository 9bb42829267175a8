use Rattle.std.proofs.Common.{◌≡◌, ℕ, ◌<◌, slice_index_or, false}
use Rattle.sg_index.specs.Order.{is_from}
use Rattle.sg_index.specs.declared.item.Item.{Item as Listed}
use Rattle.sg_index.proofs.order.place_from.Given as goal

abbrev pub invariant-items : goal.invariant-items
invariant-items l = (k : ℕ) (d : Listed) → k < l.i → is_from l.from l.strict (slice_index_or l.items k d).key ≡ false
