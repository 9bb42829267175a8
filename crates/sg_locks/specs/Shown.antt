-- What the table holds, without where it lies in memory.
use Rattle.std.specs.Prelude.{List, map}
use Rattle.sg_serial.specs.Locks.{Hold}
use Rattle.sg_model.specs.Touches.{Resource}
use Rattle.sg_model.specs.Resources.{shown_touch}
use Rattle.sg_locks.specs.declared.table.Hold as code

abbrev pub shown_hold : code.Hold → Hold Resource
shown_hold h = record { transaction = h.transaction.0; touch = shown_touch h.touch }

abbrev pub holds_of : List code.Hold → List (Hold Resource)
holds_of items = map shown_hold items
