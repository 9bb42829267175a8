use Rattle.std.proofs.Common.{◌≡◌, ◌++◌, take}
use Rattle.sg_base.specs.Page.{slots_of}
use Rattle.sg_catalog.specs.Look.{names_of, read_rows}
use Rattle.sg_catalog.proofs.look.list_names.Given as goal

abbrev pub invariant-loop-slot : goal.invariant-loop-slot
invariant-loop-slot l = l.names.items ≡ l.fn.names.items ++ names_of (read_rows (take l.slot (slots_of l.view.page.now)))
