-- A log whose records may be repeated.
use Rattle.std.specs.Prelude.{◌≡◌, ℕ, None, List}
use Rattle.sg_ops.specs.Table.{Table}
use Rattle.sg_record.specs.Records.{Record}
use Rattle.sg_log.specs.Frames.{numbered_in}
use Rattle.sg_places.specs.Asked.{Undone, first_outside, first_unknown}

-- EACH RECORD is of a page or a band of the store, and the operations are registered that are needed from the point on, and of what opening takes
-- back
pub record IsPrepared (t : Table) (pages bands base point : ℕ) (undone : Undone) (frames : List (List Record)) : Type 0 where
  pub there : first_outside pages bands 0 frames ≡ None
  pub known : first_unknown t point undone (numbered_in base frames) ≡ None
