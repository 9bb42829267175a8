-- What is known of the change that a record holds.
use Rattle.std.specs.Prelude.{◌≡◌, ℕ}
use Rattle.sg_base.specs.Op.{Op}
use Rattle.sg_record.specs.Changes.{PageChange}
use Rattle.sg_actions.specs.Changes.{op_said}

-- a record's change of a page is this operation on this page
pub record IsSaid (c : PageChange) (p : ℕ) (op : Op) : Type 0 where
  pub page_is : c.page ≡ p
  pub said : op_said c ≡ op
