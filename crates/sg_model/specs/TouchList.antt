-- What a few touches are.
use Rattle.std.specs.Prelude.{List, map, take}
use Rattle.sg_serial.specs.Locks.{Touch}
use Rattle.sg_model.specs.declared.touch.Touches.{Touches}
use Rattle.sg_model.specs.Touches.{Resource}
use Rattle.sg_model.specs.Resources.{shown_touch}

abbrev pub shown_touches : Touches → List (Touch Resource)
shown_touches t = map shown_touch (take t.len t.touches)
