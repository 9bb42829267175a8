use Rattle.std.proofs.Common.{◌∙◌, sym, ap, length, arith}
use Rattle.sg_core.specs.Slots.{live_of}
use Rattle.sg_core.proofs.Order.{ordered_length}
use Rattle.sg_core.proofs.Slots.{live-length}
use Rattle.sg_core.proofs.txns.Txns.count.Goals as goal

pub overflow_cast-result : goal.overflow_cast-result
overflow_cast-result c = let e = live-length c.self.inside.live.slots in omega (arith, e, c.len.ensures, c.self.invariant.few)

pub returns : goal.returns
returns c = c.len.ensures ∙ (sym (live-length c.self.inside.live.slots) ∙ (sym (ordered_length (live_of c.self.inside.live.slots)) ∙ ap length c.self.view_is))
