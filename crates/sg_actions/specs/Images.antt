-- What the images of an engine's disk hold.
use Rattle.std.specs.Prelude.{◌≡◌, ◌++◌}
use Rattle.sg_disk.specs.Disk.{Image}
use Rattle.sg_ops.specs.Table.{Table}
use Rattle.sg_recovery.specs.Log.{tally}
use Rattle.sg_action.specs.States.{State}
use Rattle.sg_actions.specs.Steps.{Steps, repeated}

-- the later log has the earlier one behind
pub record Grows (earlier later : Steps) : Type 0 where
  pub since : Steps
  pub all : later ≡ since ++ earlier

-- a front of a log that has all of its durable steps
pub record IsFront (durable log front : Steps) : Type 0 where
  pub within : Grows front log
  pub whole : Grows durable front

-- That an image's log holds these steps, and that with history repeated its pages and bands hold this. An image holds one list of
-- steps at most.
abbrev pub Recovering : Type 1
Recovering = Image → Steps → State → Type 0

-- AN IMAGE has a front of these steps with all that were durable, or what is left of it once its own front is cut off: that says what all of it
-- says. And it comes to what all of these make of what was found first
pub record IsImageOf (holds : Recovering) (t : Table) (first : State) (durable log : Steps) (c : Image) : Type 0 where
  pub front : Steps
  pub is_front : IsFront durable log front
  pub left : Steps
  pub says : tally left ≡ tally front
  pub recovers : holds c left (repeated t first front)
