use Rattle.std.proofs.Common.{sym, ◌∙◌}
use Rattle.sg_base.specs.Page.{count_of}
use Rattle.sg_base.proofs.Slots.{length-slots_below}
use Rattle.sg_base.proofs.page.SlotView.slots.Goals as goal

pub returns : goal.returns
returns c = c.u16_at.ensures ∙ sym (length-slots_below c.args.self.now.page.now (count_of c.args.self.now.page.now))
