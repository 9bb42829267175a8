use Rattle.std.proofs.Common.{◌≡◌, map, drop}
use Rattle.std.specs.List.{list_any}
use Rattle.sg_model.specs.Touches.{same_resource}
use Rattle.sg_model.specs.Resources.{shown_resource, shown_touch}
use Rattle.sg_locks.proofs.table.is_among.Given as goal

abbrev pub invariant-loop-touch : goal.invariant-loop-touch
invariant-loop-touch l = list_any (λ o. same_resource o.what (shown_resource l.what)) (map shown_touch (drop l.touch-index l.touches)) ≡ list_any (λ o. same_resource o.what (shown_resource l.what)) (map shown_touch l.touches)
