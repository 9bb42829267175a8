use Rattle.std.proofs.Common.{◌≡◌, take, None}
use Rattle.std.specs.List.{find}
use Rattle.sg_base.specs.Page.{slots_of}
use Rattle.sg_catalog.specs.Look.{fits, read_rows}
use Rattle.sg_catalog.proofs.look.found_in.Given as goal

abbrev pub invariant-loop-slot : goal.invariant-loop-slot
invariant-loop-slot l = find (fits l.wanted) (read_rows (take l.slot (slots_of l.view.page.now))) ≡ None
