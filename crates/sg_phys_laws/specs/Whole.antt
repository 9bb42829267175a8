-- Images whose log has all of its front.
use Rattle.sg_disk.specs.Disk.{Image}
use Rattle.sg_ops.specs.Table.{Table}
use Rattle.sg_action.specs.States.{State}
use Rattle.sg_actions.specs.Images.{Recovering, IsFront}
use Rattle.sg_actions.specs.Steps.{Steps, repeated}

-- AN IMAGE holds all of a front of these steps, with all that were durable, and comes to what these make of what was found first
pub record IsWholeImageOf (holds : Recovering) (t : Table) (first : State) (durable log : Steps) (c : Image) : Type 0 where
  pub front : Steps
  pub is_front : IsFront durable log front
  pub recovers : holds c front (repeated t first front)
