use Rattle.std.proofs.Common.{◌∙◌, sym, ap}
use Rattle.sg_core.specs.Slots.{live_of}
use Rattle.sg_core.proofs.Order.{ordered_sum}
use Rattle.sg_core.proofs.Slots.{sum_of}
use Rattle.sg_core.proofs.txns.Txns.reserved.Goals as goal

pub returns : goal.returns
returns c = c.self.invariant.total ∙ (sym (ordered_sum (λ x. x.reserved) (live_of c.self.inside.live.slots)) ∙ ap sum_of c.self.view_is)
