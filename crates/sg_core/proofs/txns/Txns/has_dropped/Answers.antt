use Rattle.std.proofs.Common.{sym, ap, ◌∙◌}
use Rattle.sg_core.specs.Live.{has_dropped}
use Rattle.sg_core.proofs.Kept.{dropped_is, none_dropped}
use Rattle.sg_core.proofs.txns.Txns.has_dropped.Goals as goal

pub returns-in-Some : goal.returns-in-Some
returns-in-Some c = sym (dropped_is c.self.inside.live c.args.t.0 c.in-Some.field-0-0 c.in-Some.entry c.in-Some.ensures.found c.self.invariant.distinct) ∙ ap (λ xs. has_dropped xs c.args.t.0) c.self.view_is

pub returns-in-None : goal.returns-in-None
returns-in-None c = sym (none_dropped c.self.inside.live c.args.t.0 c.in-None.ensures.absent) ∙ ap (λ xs. has_dropped xs c.args.t.0) c.self.view_is
