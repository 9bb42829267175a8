-- What holds of a pool's frames and of their order.
use Rattle.std.specs.Prelude.{◌≤◌, ℕ, Bool, List, length}
use Rattle.sg_pool.specs.declared.slot.Slot.{Slot}
use Rattle.sg_pool.specs.Order.{IsOrder}

-- the order is one of the frames, of which there are 32 at least
pub record IsPool (slots : List Slot) (entries : List (ℕ × Bool)) : Type 0 where
  pub many : 32 ≤ length slots
  pub order : IsOrder (length slots) entries
