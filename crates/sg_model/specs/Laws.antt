-- The law of touches: what an operation's touches say of it. And the law of undo.
use Rattle.std.specs.Prelude.{◌≡◌}
use Rattle.sg_serial.specs.Machine.{HasFootprint}
use Rattle.sg_serial.specs.Locks.{reads, writes}
use Rattle.sg_ops.specs.Table.{Table as Operations}
use Rattle.sg_model.specs.Objects.{Objects}
use Rattle.sg_model.specs.Verb.{Op}
use Rattle.sg_model.specs.Step.{step}
use Rattle.sg_model.specs.Undo.{noted_step, unstep}
use Rattle.sg_model.specs.Touches.{Cell, Seen, cell, touches, covers}

abbrev pub CellContents : Cell → Type 0
CellContents c = Seen c.part

-- An operation changes only cells that it writes; its answer, its changes and its touches follow from the cells that
-- it touches. Objects that are the same in each cell are one
abbrev pub KeepsToTouches : Type 0
KeepsToTouches = (t : Operations) → HasFootprint CellContents (step t) cell touches (reads covers) (writes covers)

-- The same of a step with what undoes it: that follows from the cells that it touches, too. And it takes back what was done
-- last
pub record IsUndoable (t : Operations) : Type 0 where
  pub footprint : HasFootprint CellContents (noted_step t) cell touches (reads covers) (writes covers)
  pub undone : (s : Objects) (op : Op) → unstep (noted_step t s op).1 (noted_step t s op).0 ≡ s

abbrev pub StepsAreUndoable : Type 0
StepsAreUndoable = (t : Operations) → IsUndoable t
