use Rattle.std.proofs.Common.{◌≡◌, ℕ, ◌<◌, List, Some}
use Rattle.sg_base.specs.Page.{cell_in, slots_of}
use Rattle.sg_bucket.proofs.room.has_entry.Given as goal

abbrev pub invariant-loop-slot : goal.invariant-loop-slot
invariant-loop-slot l = (slot : ℕ) (cell : List ℕ) → slot < l.slot → cell_in (slots_of l.view.page.now) slot ≡ Some cell → ⊥
