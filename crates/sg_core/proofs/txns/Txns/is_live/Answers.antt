use Rattle.std.proofs.Common.{ap, ◌∙◌}
use Rattle.sg_core.specs.Live.{is_live}
use Rattle.sg_core.proofs.Kept.{found_is}
use Rattle.sg_core.proofs.txns.Txns.is_live.Goals as goal

pub returns : goal.returns
returns c = c.is_some.ensures ∙ (found_is c.self.inside.live c.args.t.0 c.find.result c.find.ensures.found c.find.ensures.absent ∙ ap (λ xs. is_live xs c.args.t.0) c.self.view_is)
